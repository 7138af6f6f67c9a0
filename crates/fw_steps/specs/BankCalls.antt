-- Whether a device calls its bank in a step: for a packet that is delivered to its node, or for a
-- verdict. The agent has no bank, and no other step calls one.
use Rattle.std.specs.Prelude.{ℕ, ◌==◌, ◌&&◌, Bool, false, not, List, Option, Some, None}
use Rattle.exch_lane.specs.Lanes.{Sent, item_numbered}
use Rattle.fd_core.specs.BankCalls.{verdict_calls_bank}
use Rattle.fd_core.specs.declared.states.Verdict.{Verdict}
use Rattle.fw_node.specs.BankCalls.{packet_calls_bank}
use Rattle.fw_node.specs.Cores.{device_core}
use Rattle.fw_steps.specs.Worlds.{SiteOf, WorldOf, packets_of, site_for}
use Rattle.fw_steps.specs.declared.step.Step.{Step}
use Rattle.fw_steps.specs.declared.step.Step.TheVariants as steps

-- the bytes of a packet at a device's node, if there is one
abbrev pub receipt_calls_bank : List ℕ → Option SiteOf → Bool
receipt_calls_bank bytes None = false
receipt_calls_bank bytes (Some x) = packet_calls_bank device_core x.node.half bytes

-- a packet, if there is one, that is delivered to a node
abbrev pub delivery_calls_bank : WorldOf → (node : ℕ) → Option Sent → Bool
delivery_calls_bank w node None = false
delivery_calls_bank w node (Some p) = not (node == w.agent.endpoint.eid) && receipt_calls_bank p.bytes (site_for w.sites node)

-- a verdict for a device, if there is one
abbrev pub judgement_calls_bank : Verdict → Option SiteOf → Bool
judgement_calls_bank verdict None = false
judgement_calls_bank verdict (Some x) = verdict_calls_bank x.node.half.core.device verdict

abbrev pub step_calls_bank : WorldOf → Step → Bool
step_calls_bank w (steps.Deliver device number node) = delivery_calls_bank w node (item_numbered (packets_of w device) number)
step_calls_bank w (steps.Verdict device verdict) = judgement_calls_bank verdict (site_for w.sites device)
step_calls_bank w s = false
