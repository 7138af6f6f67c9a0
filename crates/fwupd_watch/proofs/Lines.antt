-- The lines of a display, place by place.
use Rattle.std.proofs.Common.{None, Some, get_or, ◌≡◌, ◌<◌, ◌≤◌, ◌+◌, ◌∙◌, ◌++◌, ◌∷◌, ℕ, List, [], Option, ap, arith, suc, drop, take, length, refl, subst, sym, slice_set}
use Rattle.std.proofs.lemmas.List.{append_assoc, length-append, length-set, take_more_set}
use Rattle.fw_steps.specs.Worlds.{SiteOf}
use Rattle.std.specs.Prelude.{slice_get}
use Rattle.std.specs.declared.time.Instant.{Instant}
use Rattle.fwupd_watch.specs.Progress.{first_left, firsts_left, lines_for, lines_of, load_in, loads_at}
use Rattle.fwupd_watch.specs.declared.loads.Load.{Load}
use Rattle.fwupd_watch.specs.declared.progress.FirstDisplay.{FirstDisplay}
use Rattle.fwupd_watch.specs.declared.progress_text.ProgressLine.{ProgressLine}

-- The lines of the places before this one are appended, and their first displays are noted.
pub record LinesUpTo (place : ℕ) (start firsts : List (Option FirstDisplay)) (loads : List (Option Load)) (now : Instant) (lines : List ProgressLine) : Type 0 where
  pub appended : lines ++ lines_of (drop place firsts) (drop place loads) now ≡ lines_of start loads now
  pub noted : take place firsts ++ firsts_left (drop place firsts) (drop place loads) now ≡ firsts_left start loads now
  pub few : length lines ≤ place
  pub whole : length firsts ≡ 16
  pub all : length loads ≡ 16

-- the rest of the lines begins with that of the next place
lines_next : (place : ℕ) (firsts : List (Option FirstDisplay)) (loads : List (Option Load)) (now : Instant) (left d : Option FirstDisplay) (e : Option Load)
    → place < length firsts → place < length loads
    → lines_of (drop place firsts) (drop place loads) now
    ≡ lines_for (get_or firsts place d) (get_or loads place e) now ++ lines_of (drop (suc place) (slice_set firsts place left)) (drop (suc place) loads) now
lines_next place [] loads now left d e within there = absurd (omega (arith, within))
lines_next place (x ∷ firsts) [] now left d e within there = absurd (omega (arith, there))
lines_next Prim.Native.Nat.zero (x ∷ firsts) (y ∷ loads) now left d e within there = refl
lines_next (suc place) (x ∷ firsts) (y ∷ loads) now left d e within there = lines_next place firsts loads now left d e (omega (arith, within)) (omega (arith, there))

-- and so do the first displays that are left
firsts_next : (place : ℕ) (firsts : List (Option FirstDisplay)) (loads : List (Option Load)) (now : Instant) (left d : Option FirstDisplay) (e : Option Load)
    → place < length firsts → place < length loads → left ≡ first_left (get_or firsts place d) (get_or loads place e) now
    → take place firsts ++ firsts_left (drop place firsts) (drop place loads) now
    ≡ take (suc place) (slice_set firsts place left) ++ firsts_left (drop (suc place) (slice_set firsts place left)) (drop (suc place) loads) now
firsts_next place [] loads now left d e within there is = absurd (omega (arith, within))
firsts_next place (x ∷ firsts) [] now left d e within there is = absurd (omega (arith, there))
firsts_next Prim.Native.Nat.zero (x ∷ firsts) (y ∷ loads) now left d e within there is = rw is refl
firsts_next (suc place) (x ∷ firsts) (y ∷ loads) now left d e within there is =
    ap (λ rest. x ∷ rest) (firsts_next place firsts loads now left d e (omega (arith, within)) (omega (arith, there)) is)

few_lines : (first : Option FirstDisplay) (load : Option Load) (now : Instant) → length (lines_for first load now) ≤ 1
few_lines first None now = omega arith
few_lines first (Some load) now = omega arith

pub place_lined : (place : ℕ) (start firsts : List (Option FirstDisplay)) (loads : List (Option Load)) (now : Instant) (lines next : List ProgressLine) (left d : Option FirstDisplay) (e : Option Load)
    → LinesUpTo place start firsts loads now lines → place < 16
    → next ≡ lines ++ lines_for (get_or firsts place d) (get_or loads place e) now → left ≡ first_left (get_or firsts place d) (get_or loads place e) now
    → LinesUpTo (place + 1) start (slice_set firsts place left) loads now next
place_lined place start firsts loads now lines next left d e h within is_next is_left =
    let many : place < length firsts = omega (arith, within, h.whole) in
    let there : place < length loads = omega (arith, within, h.all) in
    let one : suc place ≡ place + 1 = omega arith in
    subst (λ n. LinesUpTo n start (slice_set firsts place left) loads now next) one (record {
      appended = rw is_next (append_assoc lines (lines_for (get_or firsts place d) (get_or loads place e) now) (lines_of (drop (suc place) (slice_set firsts place left)) (drop (suc place) loads) now)
          ∙ ap (λ rest. lines ++ rest) (sym (lines_next place firsts loads now left d e many there)) ∙ h.appended);
      noted = sym (firsts_next place firsts loads now left d e many there is_left) ∙ h.noted;
      few = rw is_next (rw (length-append lines (lines_for (get_or firsts place d) (get_or loads place e) now))
          (omega (arith, h.few, few_lines (get_or firsts place d) (get_or loads place e) now)));
      whole = length-set firsts place left ∙ h.whole;
      all = h.all;
    })

-- The images of the places before this one are noted.
pub record LoadsUpTo (place : ℕ) (loads : List (Option Load)) (sites : List SiteOf) : Type 0 where
  pub taken : take place loads ≡ loads_at sites place
  pub whole : length loads ≡ 16

pub load_noted : (place : ℕ) (loads : List (Option Load)) (sites : List SiteOf) (load : Option Load) → LoadsUpTo place loads sites → place < 16 → load ≡ load_in (slice_get sites place)
    → LoadsUpTo (place + 1) (slice_set loads place load) sites
load_noted place loads sites load h within is =
    let one : suc place ≡ place + 1 = omega arith in
    record {
      taken = take_more_set loads place load (omega (arith, within, h.whole)) ∙ (rw is (ap (λ before. before ++ load_in (slice_get sites place) ∷ []) h.taken) ∙ ap (loads_at sites) one);
      whole = length-set loads place load ∙ h.whole;
    }
