use Rattle.std.proofs.Common.{◌-◌, ◌∷◌, ◌∙◌, sym, ap, take}
use Rattle.byteorder.specs.Endian.{little_number}
use Rattle.fw_package.specs.Lent.{record_seen}
use Rattle.fw_package.specs.Records.{record_of, records_of}
use Rattle.fw_package.specs.Views.{list_or_empty}
use Rattle.fw_package.proofs.Walked.{less_behind}
use Rattle.fw_package.proofs.Rows.{not_refused, record_left}
use Rattle.fw_package.proofs.records.RecordsIterator.next.Goals as goal

pub first_record-requires : goal.first_record-requires
first_record-requires c =
    let left = record_left c.self.inside.bitmap_size c.self.inside.component_count c.self.inside.count c.self.inside.rest.now c.self.invariant c.if-self-eq0.false in
    record { long = left.long; whole = left.whole }

pub unreachable-requires : goal.unreachable-requires
unreachable-requires c =
    not_refused (record_of c.self.inside.bitmap_size c.self.inside.component_count (take (little_number 2 c.self.inside.rest.now) c.self.inside.rest.now)) c.in_default.field-0
    (record_left c.self.inside.bitmap_size c.self.inside.component_count c.self.inside.count c.self.inside.rest.now c.self.invariant c.if-self-eq0.false).read
    (rw c.first_record.ensures.«record» at c.in_default.ensures)

pub invariant_of-self : goal.invariant_of-self
invariant_of-self c =
    rw c.first_record.ensures.others
    (record_left c.self.inside.bitmap_size c.self.inside.component_count c.self.inside.count c.self.inside.rest.now c.self.invariant c.if-self-eq0.false).others

pub returns-clause-steps : goal.returns-clause-steps
returns-clause-steps c =
    sym c.self.view_is
    ∙ (record_left c.self.inside.bitmap_size c.self.inside.component_count c.self.inside.count c.self.inside.rest.now c.self.invariant c.if-self-eq0.false).list
    (record_seen c.in-Ok.«record») (sym (rw c.first_record.ensures.«record» at c.in-Ok.ensures))
    ∙ ap (λ xs. record_seen c.in-Ok.«record» ∷ list_or_empty (records_of c.self.inside.bitmap_size c.self.inside.component_count (c.self.inside.count - 1) xs)) (sym c.first_record.ensures.others)

pub returns-clause-goes : goal.returns-clause-goes
returns-clause-goes c = record {
  on = λ _. (
    tt,
    tt,
    less_behind _ _ _ (
        sym c.self.view_is
        ∙ (record_left c.self.inside.bitmap_size c.self.inside.component_count c.self.inside.count c.self.inside.rest.now c.self.invariant c.if-self-eq0.false).list
        (record_seen c.in-Ok.«record») (sym (rw c.first_record.ensures.«record» at c.in-Ok.ensures))
        ∙ ap (λ xs. record_seen c.in-Ok.«record» ∷ list_or_empty (records_of c.self.inside.bitmap_size c.self.inside.component_count (c.self.inside.count - 1) xs)) (sym c.first_record.ensures.others)
        ),
  );
  keeps = tt;
  rests = λ _. tt;
}
