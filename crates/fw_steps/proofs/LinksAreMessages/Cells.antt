-- The cells of both worlds after an asker gave up a request.
use Rattle.std.proofs.Common.{◌≡◌, ◌∙◌, ℕ, ◌==◌, ◌&&◌, Bool, true, false, List, [], ◌∷◌, Option, Some, None, refl, sym, ap, subst, inl, inr}
use Rattle.std.specs.Option.{option_map}
use Rattle.std.proofs.lemmas.Bool.Decides.{eqb_tells}
use Rattle.pldm_exch.specs.Caller.{Open, request_of_open}
use Rattle.exch_lane.specs.Cells.{Cell, same_bytes}
use Rattle.exch_lane.specs.Laws.{awaited_request}
use Rattle.fwup_wire.specs.Values.{CommandOf}
use Rattle.fwup_wire.specs.Commands.{command_read}
use Rattle.fw_message.specs.Pairs.{CellContentOf, cell_after_close, closed_unless, is_wished}
use Rattle.fw_node.specs.Halves.{still_wished, wished_read}
use Rattle.fw_node.specs.Halves.{is_wished as is_wished_there}
use Rattle.fw_steps.specs.Joins.{IsAnsweredAs, IsAskedAs, IsCommandFor, IsCellFor, DecodesToCommand, IsWishedIn, MatchesCell, cell_kept, cell_unless}
use Rattle.fw_steps.proofs.LinksAreLanes.Routes.{both_hold}

-- a node and a pair compare a command with the pending one alike
same_wish : (c : CommandOf) (wish : Option CommandOf) → is_wished_there c wish ≡ is_wished c wish
same_wish c None = refl
same_wish c (Some d) = refl

-- an open request is of the pending command exactly if its command is that
wished_as : (wish : Option CommandOf) (o : Open) (command : ℕ) (body : List ℕ) (c : CommandOf) → Some (command, body) ≡ Some (request_of_open o) → DecodesToCommand command body c
    → still_wished wish o ≡ is_wished c wish
wished_as wish o command body c e said =
    let same : (command, body) ≡ request_of_open o = cc in
    ap (λ p. wished_read wish (command_read p.0 p.1)) (sym same) ∙ ap (wished_read wish) said.reads ∙ same_wish c wish

-- the request of an asked cell is given up if its command is no longer pending, and so is that of
-- whole messages
asked_kept : (wished : Bool) (command : ℕ) (body : List ℕ) (h : CellContentOf) → IsAskedAs command body true h
    → MatchesCell (cell_kept wished (Cell.Asked command body true)) (Some (record h { live = h.live && wished }))
asked_kept true command body h k = record { said = k.said; reply = k.reply; live_is = rw k.live_is refl }
asked_kept false command body h k = record { said = k.said; reply = k.reply; live_is = rw k.live_is refl }

answered_kept : (wished : Bool) (command : ℕ) (body reply : List ℕ) (h : CellContentOf) → IsAnsweredAs command body reply true h
    → MatchesCell (cell_kept wished (Cell.Answered command body reply true)) (Some (record h { live = h.live && wished }))
answered_kept true command body reply h k = record { said = k.said; answer = k.answer; reply_is = k.reply_is; reads = k.reads; live_is = rw k.live_is refl }
answered_kept false command body reply h k = record { said = k.said; answer = k.answer; reply_is = k.reply_is; reads = k.reads; live_is = rw k.live_is refl }

-- A lane's cell after its asker gave up a request that is no longer the pending command matches the
-- cell of whole messages after its closing.
pub gives_up : (wish : Option CommandOf) (o : Option Open) (cell : Cell) (held : Option CellContentOf) → awaited_request cell ≡ option_map request_of_open o → MatchesCell cell held
    → MatchesCell (cell_unless wish o cell) (closed_unless wish held)
gives_up wish None Cell.Empty None e k = tt
gives_up wish (Some o) Cell.Empty None e k = absurd (cc)
gives_up wish None (Cell.Asked command body true) (Some h) e k = absurd (cc)
gives_up wish (Some o) (Cell.Asked command body true) (Some h) e k =
    rw (wished_as wish o command body h.command e k.said) (asked_kept (is_wished h.command wish) command body h k)
gives_up wish None (Cell.Asked command body false) (Some h) e k = record { said = k.said; reply = k.reply; live_is = rw k.live_is refl }
gives_up wish (Some o) (Cell.Asked command body false) (Some h) e k = absurd (cc)
gives_up wish None (Cell.Answered command body reply true) (Some h) e k = absurd (cc)
gives_up wish (Some o) (Cell.Answered command body reply true) (Some h) e k =
    rw (wished_as wish o command body h.command e k.said) (answered_kept (is_wished h.command wish) command body reply h k)
gives_up wish None (Cell.Answered command body reply false) (Some h) e k = record { said = k.said; answer = k.answer; reply_is = k.reply_is; reads = k.reads; live_is = rw k.live_is refl }
gives_up wish (Some o) (Cell.Answered command body reply false) (Some h) e k = absurd (cc)
gives_up wish o cell held e k = absurd k

-- a command that is left open is the pending command
wished_left : (live wished : Bool) → (live && wished) ≡ true → wished ≡ true
wished_left true wished e = e
wished_left false wished e = absurd (cc)

pub left_wished : (wish : Option CommandOf) (held : Option CellContentOf) → IsWishedIn (closed_unless wish held) wish
left_wished wish None = tt
left_wished wish (Some h) = λ e. wished_left h.live (is_wished h.command wish) e

-- the pending command stays open
stays_by : (live wished : Bool) → (live ≡ true → wished ≡ true) → (live && wished) ≡ live
stays_by true wished k = k refl
stays_by false wished k = refl

pub stays : (wish : Option CommandOf) (held : Option CellContentOf) → IsWishedIn held wish → closed_unless wish held ≡ held
stays wish None k = refl
stays wish (Some h) k = rw (stays_by h.live (is_wished h.command wish) k) refl

-- a closed cell stays closed
pub closed_stays : (wish : Option CommandOf) (own : Option CellContentOf) → closed_unless wish (cell_after_close own) ≡ cell_after_close own
closed_stays wish None = refl
closed_stays wish (Some h) = refl

-- a command stays for the same side
pub still_for : (agent : Bool) (wish : Option CommandOf) (held : Option CellContentOf) → IsCellFor agent held → IsCellFor agent (closed_unless wish held)
still_for agent wish None k = tt
still_for agent wish (Some h) k = k

-- the same bytes are equal
pub bytes_are : (xs ys : List ℕ) → same_bytes xs ys ≡ true → xs ≡ ys
bytes_are [] [] e = refl
bytes_are [] (y ∷ ys) e = absurd (cc)
bytes_are (x ∷ xs) [] e = absurd (cc)
bytes_are (x ∷ xs) (y ∷ ys) e =
    let both = both_hold (x == y) (same_bytes xs ys) e in
    elim (eqb_tells x y) [
      | inl same ↦ rw (same.1, bytes_are xs ys both.1) refl
      | inr other ↦ absurd (let b = both.0 in let o = other.0 in cc)
    ]

-- equal numbers
pub numbers_are : (m n : ℕ) → (m == n) ≡ true → m ≡ n
numbers_are m n e = elim (eqb_tells m n) [ inl same ↦ same.1 | inr other ↦ absurd (let o = other.0 in cc) ]

-- a command is for the same side as an equal one
pub told_for : (agent : Bool) (c d : CommandOf) → Some c ≡ Some d → IsCommandFor agent c → IsCommandFor agent d
told_for agent c d e k =
    let same : c ≡ d = cc in
    subst (λ x. IsCommandFor agent x) same k
