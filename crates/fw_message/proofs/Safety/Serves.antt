-- The session's answers keep the invariant.
use Rattle.std.specs.Prelude.{◌≡◌, ℕ, ◌==◌, ◌++◌, Bool, true, false, List, [], ◌∷◌, length, take, Option, Some, None}
use Rattle.std.proofs.Common.{◌∙◌, ap, arith}
use Rattle.std.proofs.lemmas.Bool.{eqb-true}
use Rattle.std.proofs.Math.Seq.{take-length}
use Rattle.mctp_wire.specs.declared.unit.Unit.{«Unit»}
use Rattle.fw_package.specs.Choice.{component_at}
use Rattle.fw_package.specs.Package.{ComponentOf, DescriptorOf, PackageText}
use Rattle.fwup_wire.specs.Values.{AnswerOf, CommandOf}
use Rattle.fd_core.specs.Images.{RowOf}
use Rattle.fd_core.specs.States.{Phase, WorkOf}
use Rattle.fd_core.specs.Wishes.{wish_at}
use Rattle.fd_core.specs.declared.states.Progress.TheVariants as progress
use Rattle.ua_core.specs.Lent.{key_of, package_at}
use Rattle.ua_core.specs.declared.planned.Recorded.{Recorded}
use Rattle.fw_message.proofs.Safety.Agreement.{Application, IsBegunAt, IsHeld, IsPieceOf, IsTransfer, NothingAccepted, OwnStands, Settled, StageForm, Transfer, UpdateOffered, Verification, is_sealed}
use Rattle.fw_message.proofs.Safety.Applied.{Names, backed_recorded}

module _ (ps : List PackageText) (ds : List DescriptorOf) (n : ℕ) (rs : List Recorded) (c : ComponentOf) (rows : List RowOf) (bytes : List ℕ) where
  -- an answer that accepts nothing
  begun_refused : (p : Phase) (r : Option AnswerOf) → NothingAccepted r → IsBegunAt ps ds n rs c rows bytes p None
      → IsBegunAt ps ds n rs c rows bytes p r
  begun_refused Phase.Idle r k h = tt
  begun_refused (Phase.Download u w progress.InProgress) r k h = record { same = h.same; stage = h.stage; backed = h.backed; nothing = k }
  begun_refused (Phase.Download u w progress.Succeeded) r k h = record { same = h.same; stage = h.stage; backed = h.backed; nothing = k }
  begun_refused p r k h = absurd h

  pub offered_refused : (p : Phase) (r : Option AnswerOf) (b : Bool) → NothingAccepted r → UpdateOffered ps ds n rs c rows bytes p None b
      → UpdateOffered ps ds n rs c rows bytes p r b
  offered_refused p r true k h = begun_refused p r k h
  offered_refused p r false k h = h

  pub transfer_told : (p : Phase) (d : Option CommandOf) (r : Option AnswerOf) → IsPieceOf c.image d r
      → Transfer ps ds n rs c rows bytes p d None → Transfer ps ds n rs c rows bytes p d r
  transfer_told Phase.Idle d r k h = tt
  transfer_told (Phase.Download u w a) d r k h = record { same = h.same; stage = h.stage; backed = h.backed; piece = k }
  transfer_told p d r k h = absurd h

  pub verification_refused : (p : Phase) (r : Option AnswerOf) → NothingAccepted r → Verification ps ds n rs c rows bytes p None
      → Verification ps ds n rs c rows bytes p r
  verification_refused Phase.Idle r k h = tt
  verification_refused (Phase.Download u w progress.Succeeded) r k h = h
  verification_refused (Phase.Verify u w a) r k h = (h.0, k)
  verification_refused p r k h = absurd h

  pub application_refused : (p : Phase) (r : Option AnswerOf) → NothingAccepted r → Application ps ds n rs c rows bytes p None
      → Application ps ds n rs c rows bytes p r
  application_refused Phase.Idle r k h = tt
  application_refused (Phase.Verify u w progress.Succeeded) r k h = h
  application_refused (Phase.Apply u w progress.InProgress) r k h = (h.0, k)
  application_refused (Phase.Apply u w progress.Succeeded) r k h = (h.0, k)
  application_refused (Phase.Apply u w (progress.Failed b)) r k h = (h.0, k)
  application_refused p r k h = absurd h

  -- a good result that is sent again
  begun_again : (unit : «Unit») (p : Phase) (have result methods : ℕ) (r : Option AnswerOf)
      → OwnStands p (wish_at unit p have) (Some (CommandOf.ApplyComplete result methods))
      → IsBegunAt ps ds n rs c rows bytes p None → IsBegunAt ps ds n rs c rows bytes p r
  begun_again unit Phase.Idle have result methods r own h = tt
  begun_again unit (Phase.Download u w progress.InProgress) have result methods r own h = absurd (cc)
  begun_again unit (Phase.Download u w progress.Succeeded) have result methods r own h = absurd (cc)
  begun_again unit p have result methods r own h = absurd h

  pub offered_again : (unit : «Unit») (p : Phase) (have result methods : ℕ) (r : Option AnswerOf) (b : Bool)
      → OwnStands p (wish_at unit p have) (Some (CommandOf.ApplyComplete result methods))
      → UpdateOffered ps ds n rs c rows bytes p None b → UpdateOffered ps ds n rs c rows bytes p r b
  offered_again unit p have result methods r true own h = begun_again unit p have result methods r own h
  offered_again unit p have result methods r false own h = h

  pub verification_again : (unit : «Unit») (p : Phase) (have result : ℕ) (r : Option AnswerOf)
      → OwnStands p (wish_at unit p have) (Some (CommandOf.TransferComplete result))
      → Verification ps ds n rs c rows bytes p None → Verification ps ds n rs c rows bytes p r
  verification_again unit Phase.Idle have result r own h = tt
  verification_again unit (Phase.Download u w progress.Succeeded) have result r own h = h
  verification_again unit (Phase.Verify u w progress.InProgress) have result r own h = absurd (cc)
  verification_again unit (Phase.Verify u w progress.Succeeded) have result r own h = absurd (cc)
  verification_again unit (Phase.Verify u w (progress.Failed true)) have result r own h = absurd (cc)
  verification_again unit (Phase.Verify u w (progress.Failed false)) have result r own h = absurd (cc)
  verification_again unit p have result r own h = absurd h

  pub application_again : (unit : «Unit») (p : Phase) (have result : ℕ) (r : Option AnswerOf)
      → OwnStands p (wish_at unit p have) (Some (CommandOf.VerifyComplete result))
      → Application ps ds n rs c rows bytes p None → Application ps ds n rs c rows bytes p r
  application_again unit Phase.Idle have result r own h = tt
  application_again unit (Phase.Verify u w progress.Succeeded) have result r own h = h
  application_again unit (Phase.Apply u w progress.InProgress) have result r own h = absurd (cc)
  application_again unit (Phase.Apply u w progress.Succeeded) have result r own h = absurd (cc)
  application_again unit (Phase.Apply u w (progress.Failed true)) have result r own h = absurd (cc)
  application_again unit (Phase.Apply u w (progress.Failed false)) have result r own h = absurd (cc)
  application_again unit p have result r own h = absurd h

  -- TransferComplete(0): the stage is the image
  held_full : (w : WorkOf) (d : Option CommandOf) → length bytes ≡ w.size → IsTransfer ps ds n rs c rows bytes w d None
      → IsHeld ps ds n rs c rows bytes w
  held_full w d e h = record {
    same = h.same;
    stage = h.stage ∙ ap (λ k. take k c.image) (e ∙ h.same.size) ∙ take-length c.image;
    backed = h.backed;
  }

  pub transfer_done : (unit : «Unit») (p : Phase) (result : ℕ) (r : Option AnswerOf) → (result == 0) ≡ true
      → OwnStands p (wish_at unit p (length bytes)) (Some (CommandOf.TransferComplete result)) → StageForm p (length bytes)
      → Transfer ps ds n rs c rows bytes p (Some (CommandOf.TransferComplete result)) None → Verification ps ds n rs c rows bytes p r
  transfer_done unit Phase.Idle result r z own form h = tt
  transfer_done unit (Phase.Download u w progress.InProgress) result r z own form h = absurd (cc)
  transfer_done unit (Phase.Download u w progress.Succeeded) result r z own form h =
      held_full w (Some (CommandOf.TransferComplete result)) form h
  transfer_done unit (Phase.Download u w (progress.Failed true)) result r z own form h = absurd (cc)
  transfer_done unit (Phase.Download u w (progress.Failed false)) result r z own form h =
      absurd (let is : 0x70 ≡ result = cc in let zero = eqb-true result 0 z in omega arith)
  transfer_done unit p result r z own form h = absurd h

  -- VerifyComplete(0)
  pub verified : (unit : «Unit») (p : Phase) (have result : ℕ) (r : Option AnswerOf) → (result == 0) ≡ true
      → OwnStands p (wish_at unit p have) (Some (CommandOf.VerifyComplete result))
      → Verification ps ds n rs c rows bytes p None → Application ps ds n rs c rows bytes p r
  verified unit Phase.Idle have result r z own h = tt
  verified unit (Phase.Download u w progress.Succeeded) have result r z own h = absurd (cc)
  verified unit (Phase.Verify u w progress.InProgress) have result r z own h = absurd (cc)
  verified unit (Phase.Verify u w progress.Succeeded) have result r z own h = h.0
  verified unit (Phase.Verify u w (progress.Failed true)) have result r z own h = absurd (cc)
  verified unit (Phase.Verify u w (progress.Failed false)) have result r z own h =
      absurd (let is : 0x90 ≡ result = cc in let zero = eqb-true result 0 z in omega arith)
  verified unit p have result r z own h = absurd h

  pub verify_unsealed : (p : Phase) → Verification ps ds n rs c rows bytes p None → is_sealed p ≡ true → ⊥
  verify_unsealed (Phase.Apply u w a) h e = h
  verify_unsealed p h e = absurd (cc)

  -- ApplyComplete(0): the sealed image is recorded
  pub sealed_settles : (unit : «Unit») (p : Phase) (have result methods : ℕ) (r : Recorded) → (result == 0) ≡ true
      → OwnStands p (wish_at unit p have) (Some (CommandOf.ApplyComplete result methods))
      → r.«package» ≡ n → key_of (component_at (package_at ps r.«package») r.component) ≡ key_of c → Names ps ds n (key_of c) c.image
      → Application ps ds n rs c rows bytes p None → Settled ps ds n (rs ++ r ∷ []) rows p
  sealed_settles unit Phase.Idle have result methods r z own e k names h = tt
  sealed_settles unit (Phase.Verify u w progress.Succeeded) have result methods r z own e k names h = absurd (cc)
  sealed_settles unit (Phase.Apply u w progress.InProgress) have result methods r z own e k names h = absurd (cc)
  sealed_settles unit (Phase.Apply u w (progress.Failed true)) have result methods r z own e k names h = absurd (cc)
  sealed_settles unit (Phase.Apply u w (progress.Failed false)) have result methods r z own e k names h =
      absurd (let is : 0xB0 ≡ result = cc in let zero = eqb-true result 0 z in omega arith)
  sealed_settles unit (Phase.Apply u w progress.Succeeded) have result methods r z own e k names h =
      backed_recorded ps ds n rs r (key_of c) c.image rows e k names h.0.applied h.0.others
  sealed_settles unit p have result methods r z own e k names h = absurd h
