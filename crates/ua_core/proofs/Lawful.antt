-- The laws, case by case.
use Rattle.std.specs.Prelude.{Bool, IsSome, List, [], false, if◌then◌else◌, nat_lt, true, ◌&&◌, ◌++◌, ◌==◌, ◌∷◌, ◌≡◌, ℕ}
use Rattle.std.proofs.Common.{refl, subst, sym, append-nil}
use Rattle.mctp_wire.specs.declared.unit.Unit.{«Unit»}
use Rattle.fw_package.specs.Choice.{component_at}
use Rattle.fw_package.specs.Package.{PackageText}
use Rattle.fwup_wire.specs.Values.{AnswerOf, CommandOf}
use Rattle.ua_core.specs.Laws.{IsApplying, IsOutsideUpdate, LearnsNoRecord, OutsideUpdateRecordsNothing, RecordsGoodApply, RecordsGrow, RecordsInApply, WishStands}
use Rattle.ua_core.specs.Learn.{SessionLearnRow, learn_by, learn_row}
use Rattle.ua_core.specs.Serve.{ServeRow, after_by, data_of, is_bad_length, is_past_end, record_of, recorded_with, refusal_row, serve_row, task_after, unexpected_row, window}
use Rattle.ua_core.specs.Session.{SessionOf, Stage, TaskOf}
use Rattle.ua_core.specs.Wish.{stage_wish}
use Rattle.ua_core.specs.declared.planned.Planned.{Planned}

-- after a record comes an update, or all is applied
not_loose : (t : TaskOf) (todo : List Planned) → IsOutsideUpdate (task_after t todo) → ⊥
not_loose t [] h = h
not_loose t (i ∷ is) h = h

loose_by : (s : SessionOf) (r : ServeRow) → IsOutsideUpdate (after_by s r).stage → (after_by s r).records ≡ s.records
loose_by s (ServeRow.Record t) h = absurd (not_loose t t.todo h)
loose_by s (ServeRow.Say a) h = refl
loose_by s (ServeRow.Give bytes) h = refl
loose_by s (ServeRow.Move g a) h = refl

pub loose_records_nothing : OutsideUpdateRecordsNothing
loose_records_nothing p s c h = loose_by s (serve_row s.unit p s.stage c) h

grows_by : (s : SessionOf) (r : ServeRow) → (after_by s r).records ≡ s.records ++ recorded_with s r
grows_by s (ServeRow.Record t) = refl
grows_by s (ServeRow.Say a) = sym (append-nil s.records)
grows_by s (ServeRow.Give bytes) = sym (append-nil s.records)
grows_by s (ServeRow.Move g a) = sym (append-nil s.records)

pub records_grow : RecordsGrow
records_grow p s c = grows_by s (serve_row s.unit p s.stage c)

learns_by : (s : SessionOf) (r : SessionLearnRow) → (learn_by s r).records ≡ s.records
learns_by s SessionLearnRow.Stay = refl
learns_by s (SessionLearnRow.Go g) = refl

pub learns_no_record : LearnsNoRecord
learns_no_record p s a = learns_by s (learn_row p s.stage a)

-- two cases that leave the session as it is
stands_both : (s : SessionOf) (b : Bool) (r q : ServeRow) → after_by s r ≡ s → after_by s q ≡ s → after_by s (if b then r else q) ≡ s
stands_both s true r q x y = x
stands_both s false r q x y = y

stands_in : (unit : «Unit») (p : PackageText) (s : SessionOf) (g : Stage) (c : CommandOf) → IsSome (stage_wish unit p g)
    → after_by s (serve_row unit p g c) ≡ s
stands_in unit p s (Stage.Update t) (CommandOf.ApplyComplete result methods) h =
    stands_both s ((result == 0) && nat_lt 0 t.made) (ServeRow.Say AnswerOf.ApplyComplete) unexpected_row refl refl
stands_in unit p s (Stage.Activate j) (CommandOf.ApplyComplete result methods) h =
    stands_both s (result == 0) (ServeRow.Say AnswerOf.ApplyComplete) unexpected_row refl refl
stands_in unit p s (Stage.Download t) c h = absurd (cc)
stands_in unit p s (Stage.Verify t) c h = absurd (cc)
stands_in unit p s (Stage.Apply t) c h = absurd (cc)
stands_in unit p s (Stage.AllApplied j) c h = absurd (cc)
stands_in unit p s g (CommandOf.RequestFirmwareData offset size) h = refl
stands_in unit p s g (CommandOf.TransferComplete result) h = refl
stands_in unit p s g (CommandOf.VerifyComplete result) h = refl
stands_in unit p s g (CommandOf.ApplyComplete result methods) h = refl
stands_in unit p s g c h = refl

pub wish_stands : WishStands
wish_stands p s c h = stands_in s.unit p s s.stage c h

-- two cases that record nothing
nothing_both : (s : SessionOf) (b : Bool) (r q : ServeRow) → recorded_with s r ≡ [] → recorded_with s q ≡ []
    → recorded_with s (if b then r else q) ≡ []
nothing_both s true r q x y = x
nothing_both s false r q x y = y

data_nothing : (unit : «Unit») (s : SessionOf) (image : List ℕ) (offset size : ℕ) → recorded_with s (data_of unit image offset size) ≡ []
data_nothing unit s image offset size =
    nothing_both s (is_bad_length unit size) (refusal_row 0x83)
    (if is_past_end image offset size then refusal_row 0x82 else ServeRow.Give (window image offset size)) refl
    (nothing_both s (is_past_end image offset size) (refusal_row 0x82) (ServeRow.Give (window image offset size)) refl refl)

-- a record is made only in Apply
nothing_in : (unit : «Unit») (p : PackageText) (s : SessionOf) (g : Stage) (c : CommandOf) → (IsApplying g → ⊥)
    → recorded_with s (serve_row unit p g c) ≡ []
nothing_in unit p s (Stage.Download t) (CommandOf.RequestFirmwareData offset size) h =
    data_nothing unit s (component_at p t.at_hand.component).image offset size
nothing_in unit p s (Stage.Apply t) c h = absurd (h tt)
nothing_in unit p s (Stage.Verify t) (CommandOf.TransferComplete result) h =
    nothing_both s (result == 0) (ServeRow.Say AnswerOf.TransferComplete) unexpected_row refl refl
nothing_in unit p s (Stage.Update t) (CommandOf.ApplyComplete result methods) h =
    nothing_both s ((result == 0) && nat_lt 0 t.made) (ServeRow.Say AnswerOf.ApplyComplete) unexpected_row refl refl
nothing_in unit p s (Stage.AllApplied j) (CommandOf.ApplyComplete result methods) h =
    nothing_both s (result == 0) (ServeRow.Say AnswerOf.ApplyComplete) unexpected_row refl refl
nothing_in unit p s (Stage.Activate j) (CommandOf.ApplyComplete result methods) h =
    nothing_both s (result == 0) (ServeRow.Say AnswerOf.ApplyComplete) unexpected_row refl refl
nothing_in unit p s g (CommandOf.RequestFirmwareData offset size) h = refl
nothing_in unit p s g (CommandOf.TransferComplete result) h = refl
nothing_in unit p s g (CommandOf.VerifyComplete result) h = refl
nothing_in unit p s g (CommandOf.ApplyComplete result methods) h = refl
nothing_in unit p s g c h = refl

pub records_in_apply : RecordsInApply
records_in_apply p s c h = nothing_in s.unit p s s.stage c h

-- and in Apply at every good ApplyComplete
pub records_good_apply : RecordsGoodApply
records_good_apply p s t methods is =
    subst (λ g. recorded_with s (serve_row s.unit p g (CommandOf.ApplyComplete 0 methods)) ≡ record_of s t ∷ []) (sym is) refl
