-- The front of a node by itself.
use Rattle.std.specs.Prelude.{ℕ, List, Option, None, Some}
use Rattle.mctp_front.specs.Front.{front_of}
use Rattle.fw_serve.specs.declared.fronts.Front.{Front}

-- the answer to the bytes of a packet in front of the node, if there is a front and it has one
abbrev pub answer_in_front : Option Front → List ℕ → Option (List ℕ)
answer_in_front None bytes = None
answer_in_front (Some front) bytes = front_of front.unit front.endpoint bytes
