use Rattle.std.proofs.Common.{◌-◌, ◌∷◌, ◌∙◌, sym, ap}
use Rattle.fw_package.specs.Components.{components_of}
use Rattle.fw_package.specs.Lent.{component_seen}
use Rattle.fw_package.specs.Views.{list_or_empty}
use Rattle.fw_package.proofs.Walked.{less_behind}
use Rattle.fw_package.proofs.Rows.{component_left, not_refused}
use Rattle.fw_package.specs.Components.{component_of}
use Rattle.fw_package.proofs.components.ComponentsIterator.next.Goals as goal

pub read-requires : goal.read-requires
read-requires c = (component_left c.self.inside.file.now c.self.inside.count c.self.inside.rest.now c.self.invariant c.if-self-eq0.false).there

pub others-requires : goal.others-requires
others-requires c = (component_left c.self.inside.file.now c.self.inside.count c.self.inside.rest.now c.self.invariant c.if-self-eq0.false).there

pub unreachable-requires : goal.unreachable-requires
unreachable-requires c =
    not_refused (component_of c.self.inside.file.now c.self.inside.rest.now) c.in_default.field-0
    (component_left c.self.inside.file.now c.self.inside.count c.self.inside.rest.now c.self.invariant c.if-self-eq0.false).read c.in_default.ensures

pub invariant_of-self : goal.invariant_of-self
invariant_of-self c =
    rw c.others.ensures
    (component_left c.self.inside.file.now c.self.inside.count c.self.inside.rest.now c.self.invariant c.if-self-eq0.false).others

pub returns-clause-steps : goal.returns-clause-steps
returns-clause-steps c =
    sym c.self.view_is
    ∙ (component_left c.self.inside.file.now c.self.inside.count c.self.inside.rest.now c.self.invariant c.if-self-eq0.false).list (component_seen c.in-Ok.component) (sym c.in-Ok.ensures)
    ∙ ap (λ xs. component_seen c.in-Ok.component ∷ list_or_empty (components_of c.self.inside.file.now (c.self.inside.count - 1) xs)) (sym c.others.ensures)

pub returns-clause-goes : goal.returns-clause-goes
returns-clause-goes c = record {
  on = λ _. (
    tt,
    tt,
    less_behind _ _ _ (
        sym c.self.view_is
        ∙ (component_left c.self.inside.file.now c.self.inside.count c.self.inside.rest.now c.self.invariant c.if-self-eq0.false).list (component_seen c.in-Ok.component) (sym c.in-Ok.ensures)
        ∙ ap (λ xs. component_seen c.in-Ok.component ∷ list_or_empty (components_of c.self.inside.file.now (c.self.inside.count - 1) xs)) (sym c.others.ensures)
        ),
  );
  keeps = tt;
  rests = λ _. tt;
}
