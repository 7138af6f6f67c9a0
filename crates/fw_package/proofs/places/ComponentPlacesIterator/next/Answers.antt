use Rattle.std.proofs.Common.{◌-◌, ◌∷◌, ◌∙◌, sym, ap}
use Rattle.fw_package.specs.Outlines.{places_of}
use Rattle.fw_package.specs.Lent.{place_seen}
use Rattle.fw_package.specs.Views.{list_or_empty}
use Rattle.fw_package.proofs.Walked.{less_behind}
use Rattle.fw_package.proofs.PlaceRows.{place_left}
use Rattle.fw_package.proofs.Rows.{not_refused}
use Rattle.fw_package.specs.Outlines.{place_within}
use Rattle.fw_package.proofs.places.ComponentPlacesIterator.next.Goals as goal

pub read-requires : goal.read-requires
read-requires c = (place_left c.self.inside.file_length c.self.inside.count c.self.inside.rest.now c.self.invariant c.if-self-eq0.false).there

pub others-requires : goal.others-requires
others-requires c = (place_left c.self.inside.file_length c.self.inside.count c.self.inside.rest.now c.self.invariant c.if-self-eq0.false).there

pub unreachable-requires : goal.unreachable-requires
unreachable-requires c =
    not_refused (place_within c.self.inside.file_length c.self.inside.rest.now) c.in_default.field-0
    (place_left c.self.inside.file_length c.self.inside.count c.self.inside.rest.now c.self.invariant c.if-self-eq0.false).read c.in_default.ensures

pub invariant_of-self : goal.invariant_of-self
invariant_of-self c =
    rw c.others.ensures
    (place_left c.self.inside.file_length c.self.inside.count c.self.inside.rest.now c.self.invariant c.if-self-eq0.false).others

pub returns-clause-steps : goal.returns-clause-steps
returns-clause-steps c =
    sym c.self.view_is
    ∙ (place_left c.self.inside.file_length c.self.inside.count c.self.inside.rest.now c.self.invariant c.if-self-eq0.false).list (place_seen c.in-Ok.place) (sym c.in-Ok.ensures)
    ∙ ap (λ xs. place_seen c.in-Ok.place ∷ list_or_empty (places_of c.self.inside.file_length (c.self.inside.count - 1) xs)) (sym c.others.ensures)

pub returns-clause-goes : goal.returns-clause-goes
returns-clause-goes c = record {
  on = λ _. (
    tt,
    tt,
    less_behind _ _ _ (
        sym c.self.view_is
        ∙ (place_left c.self.inside.file_length c.self.inside.count c.self.inside.rest.now c.self.invariant c.if-self-eq0.false).list (place_seen c.in-Ok.place) (sym c.in-Ok.ensures)
        ∙ ap (λ xs. place_seen c.in-Ok.place ∷ list_or_empty (places_of c.self.inside.file_length (c.self.inside.count - 1) xs)) (sym c.others.ensures)
        ),
  );
  keeps = tt;
  rests = λ _. tt;
}
