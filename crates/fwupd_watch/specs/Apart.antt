-- The outputs of a run overwrite neither its inputs nor each other, and are in no store.
use Rattle.std.specs.Prelude.{ℕ, ◌⊎◌, Bool, List, Option, None, IfSome, IsSomeAnd}
use Rattle.std.specs.List.{AllByRecursion}
use Rattle.fwupd_watch.specs.Files.{FileOf, IsApartFrom, IsInFolder, IsOutsideFolder, IsOver, IsOverOne}
use Rattle.fwupd_watch.specs.Running.{HasObserverFault, MayRefuse, ShowOf, ObserverOf}
use Rattle.fwupd_watch.specs.declared.faults.JobFault.{JobFault}
use Rattle.fwupd_watch.specs.declared.faults.JobFault.TheVariants as faults

-- An output, if there is one, may overwrite one of the paths or one of two other outputs; or it
-- overwrites none of them.
abbrev pub IsOverUsed : (files : List ℕ → FileOf) (path first second : Option (List ℕ)) (paths : List (List ℕ)) → Type 0
IsOverUsed files path first second paths =
    IsSomeAnd path (λ p. IsOverOne files p paths ⊎ (IsSomeAnd first (IsOver files p) ⊎ IsSomeAnd second (IsOver files p)))

abbrev pub IsApartFromUsed : (files : List ℕ → FileOf) (path first second : Option (List ℕ)) (paths : List (List ℕ)) → Type 0
IsApartFromUsed files path first second paths =
    IfSome path (λ p. AllByRecursion (IsApartFrom files p) paths × (IfSome first (IsApartFrom files p) × IfSome second (IsApartFrom files p)))

-- An output, if there is one, is in the folder of stores, if there is one, or in a store; or it is
-- outside.
abbrev pub IsInStore : (files : List ℕ → FileOf) (path store : Option (List ℕ)) → Type 0
IsInStore files path store = IsSomeAnd path (λ p. IsSomeAnd store (λ s. IsInFolder (files p) (files s)))

abbrev pub IsOutOfStore : (files : List ℕ → FileOf) (path store : Option (List ℕ)) → Type 0
IsOutOfStore files path store = IfSome path (λ p. IfSome store (λ s. IsOutsideFolder (files p) (files s)))

-- The trace overwrites none of the files of these paths, the log neither them nor the trace, and
-- the recording none of all these. None is in a store.
abbrev pub IsTraceApart : (files : List ℕ → FileOf) → ShowOf → List (List ℕ) → Type 0
IsTraceApart files show paths = IsApartFromUsed files show.trace None None paths × IsOutOfStore files show.trace show.store

abbrev pub IsLogApart : (files : List ℕ → FileOf) → ShowOf → List (List ℕ) → Type 0
IsLogApart files show paths = IsApartFromUsed files show.log show.trace None paths × IsOutOfStore files show.log show.store

abbrev pub IsRecordingApart : (files : List ℕ → FileOf) → ShowOf → List (List ℕ) → Type 0
IsRecordingApart files show paths = IsApartFromUsed files show.record_path show.trace show.log paths × IsOutOfStore files show.record_path show.store

abbrev pub IsApart : (files : List ℕ → FileOf) → ShowOf → List (List ℕ) → Type 0
IsApart files show paths = IsTraceApart files show paths × (IsLogApart files show paths × IsRecordingApart files show paths)

-- The output of this fault is the first that may overwrite one of the paths or another output, or
-- is in a store.
abbrev pub IsOverRead : (files : List ℕ → FileOf) → ShowOf → List (List ℕ) → JobFault → Type 0
IsOverRead files show paths faults.Trace = IsOverUsed files show.trace None None paths ⊎ IsInStore files show.trace show.store
IsOverRead files show paths faults.Log =
    IsTraceApart files show paths × (IsOverUsed files show.log show.trace None paths ⊎ IsInStore files show.log show.store)
IsOverRead files show paths faults.Record =
    IsTraceApart files show paths
    × (IsLogApart files show paths × (IsOverUsed files show.record_path show.trace show.log paths ⊎ IsInStore files show.record_path show.store))
IsOverRead files show paths told = ⊥

-- The observer doesn't begin, for this fault: an output may overwrite a file, or none does and the
-- output of the fault is refused.
abbrev pub IsBarred : (files : List ℕ → FileOf) (refuses : List ℕ → Bool) (show : ShowOf) (paths : List (List ℕ)) (told : JobFault) (watched : ObserverOf) → Type 0
IsBarred files refuses show paths told watched =
    IsOverRead files show paths told ⊎ (IsApart files show paths × (HasObserverFault told watched.fault × MayRefuse refuses show told))
