use Rattle.std.proofs.Common.{◌≡◌, drop, map}
use Rattle.fw_trace.specs.Tables.{field_of, is_table_of}
use Rattle.fw_trace.proofs.tables.is_table_of.Given as goal

-- the fields that are left take exactly the bytes that are left
abbrev pub invariant-loop-form : goal.invariant-loop-form
invariant-loop-form l =
    is_table_of (map field_of (drop l.form-index l.fields)) l.left ≡ is_table_of (map field_of l.fn.fields) l.fn.bytes
