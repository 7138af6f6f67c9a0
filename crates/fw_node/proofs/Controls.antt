-- The answer to a control message.
use Rattle.std.proofs.Common.{◌≡◌, ◌≤◌, ◌∷◌, [], ℕ, List, Some, length, refl, arith}
use Rattle.mctp_reasm.specs.Pieces.{MessageOf}
use Rattle.fw_node.specs.Nodes.{control_message, control_sent}

-- a control answer has at least a byte
pub some_control : (m : MessageOf) (bytes : List ℕ) → 1 ≤ length bytes → control_sent m (Some bytes) ≡ control_message m bytes ∷ []
some_control m [] h = absurd (omega arith)
some_control m (b ∷ bs) h = refl

pub no_control : (m : MessageOf) (bytes : List ℕ) → length bytes ≡ 0 → control_sent m (Some bytes) ≡ []
no_control m [] h = refl
no_control m (b ∷ bs) h = absurd (omega arith)

pub ruleset controls = (some_control, no_control)
