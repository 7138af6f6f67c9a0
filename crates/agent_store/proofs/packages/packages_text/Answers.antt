use Rattle.std.proofs.Common.{◌∙◌, ◌++◌, ℕ, List, Vec, Global, ap, arith, map, sym, take}
use Rattle.agent_store.specs.Packages.{package_line, packages_text}
use Rattle.agent_store.proofs.Claims.{text_more}
use Rattle.agent_store.proofs.packages.packages_text.Goals as goal

pub loop-package-preserved : goal.loop-package-preserved
loop-package-preserved c =
    c.in_ok-push_package.ensures
    ∙ ap (λ (ls : List ℕ). ls ++ package_line c.deref.result.now) c.loop-package.invariant
    ∙ ap (λ (bs : List ℕ). packages_text (map (λ (p : Vec ℕ Global). p.items) (take c.loop-package.package-index c.args.packages.now)) ++ package_line bs) c.deref.ensures.value
    ∙ ap (λ (p : Vec ℕ Global). packages_text (map (λ (q : Vec ℕ Global). q.items) (take c.loop-package.package-index c.args.packages.now)) ++ package_line p.items) c.package-item.is
    ∙ sym (text_more (λ (p : Vec ℕ Global). p.items) c.args.packages.now c.loop-package.package-index c.package-item.result (omega arith))
