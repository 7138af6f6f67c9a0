-- What two worlds show of a device that either may lack.
use Rattle.std.proofs.Common.{Option, Some, None, IfSome, IsSomeAnd}
use Rattle.std.specs.Prelude.{List}
use Rattle.std.specs.Option.{option_map}
use Rattle.fw_package.specs.Package.{PackageText}
use Rattle.fw_message.specs.Headline.{EntryOf, IsSafeAndTied}
use Rattle.fw_message.specs.Laws.{shown_pair}
use Rattle.fw_message.specs.Worlds.{NodeOf}

-- a node at the opening, with its history of then, and at a later moment
abbrev pub IsSafeNode : List PackageText → (before : List EntryOf) → NodeOf → (es : List EntryOf) → NodeOf → Type 0
IsSafeNode ps before n es m = IsSafeAndTied ps (shown_pair n.pair before) (shown_pair m.pair es)

-- a relation of what is shown is one of what shows it, and the other way around
pub pairs_show : {A B C D : Type 0} (f : A → B) (g : C → D) (o : Option A) (p : Option C) (P : B → D → Type 0)
    → IfSome o (λ a. IsSomeAnd p (λ c. P (f a) (g c))) → IfSome (option_map f o) (λ b. IsSomeAnd (option_map g p) (P b))
pairs_show f g None p P h = tt
pairs_show f g (Some a) None P h = h
pairs_show f g (Some a) (Some c) P h = h

pub pairs_shown : {A B C D : Type 0} (f : A → B) (g : C → D) (o : Option A) (p : Option C) (P : B → D → Type 0)
    → IfSome (option_map f o) (λ b. IsSomeAnd (option_map g p) (P b)) → IfSome o (λ a. IsSomeAnd p (λ c. P (f a) (g c)))
pairs_shown f g None p P h = tt
pairs_shown f g (Some a) None P h = h
pairs_shown f g (Some a) (Some c) P h = h
