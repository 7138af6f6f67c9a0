use Rattle.fw_trace.proofs.CapturedInputs.{captures_decoded}
use Rattle.fw_trace.proofs.TracedPairs.{traced_decoded}
use Rattle.fw_trace.proofs.decoding.decodes_as_traced.Goals as goal

pub returns-clause-traced : goal.returns-clause-traced
returns-clause-traced c = traced_decoded

pub returns-clause-captured : goal.returns-clause-captured
returns-clause-captured c = captures_decoded
