use Rattle.fw_text.proofs.Chains.{adds_more}
use Rattle.fw_trace.specs.Answers.{offer_response_fields}
use Rattle.fw_trace.proofs.answers.push_offer_response.Goals as goal

pub returns : goal.returns
unfolding offer_response_fields
returns c =
    adds_more (adds_more (adds_more c.in_ok-push_byte.ensures c.in_ok-push_byte-2.ensures) (rw c.from.ensures at c.in_ok-push_eight.ensures)) c.in_ok-push_short.ensures
