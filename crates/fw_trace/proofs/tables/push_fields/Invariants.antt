use Rattle.std.proofs.Common.{◌≡◌, ◌++◌, drop, map, true}
use Rattle.fw_trace.specs.Tables.{field_of, fields_text, is_table_of}
use Rattle.fw_trace.proofs.tables.push_fields.Given as goal

-- the text so far, then the fields that are left, which take exactly the bytes that are left
abbrev pub invariant-loop-field : goal.invariant-loop-field
invariant-loop-field l =
    (is_table_of (map field_of (drop l.field-index l.fields)) l.left ≡ true)
    × (l.text.items ++ fields_text (map field_of (drop l.field-index l.fields)) l.left
    ≡ l.fn.text.items ++ fields_text (map field_of l.fn.fields) l.fn.bytes)
