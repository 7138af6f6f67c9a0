use Rattle.std.proofs.Common.{ap}
use Rattle.fw_package.specs.Package.{RecordOf}
use Rattle.fw_package.proofs.Walked.{plan_good, plan_large, plan_long, plan_many, plan_twin}
use Rattle.fw_package.proofs.packages.Package.plan.Goals as goal

pub returns-then-has_twin-clause-value : goal.returns-then-has_twin-clause-value
returns-then-has_twin-clause-value c =
    plan_twin c.args.self.now c.args.number c.record_at-record.result.uses (ap (λ (r : RecordOf). r.uses) c.record_at-record.ensures.value) c.if-has_twin.ensures

pub returns-in_default-clause-value : goal.returns-in_default-clause-value
returns-in_default-clause-value c =
    plan_many c.args.self.now c.args.number c.record_at-record.result.uses (ap (λ (r : RecordOf). r.uses) c.record_at-record.ensures.value) c.if-has_twin.ensures
    (rw c.iter.ensures at c.in_default.ensures)

pub returns-then-has_large_image-clause-value : goal.returns-then-has_large_image-clause-value
returns-then-has_large_image-clause-value c =
    plan_large c.args.self.now c.args.number c.record_at-record.result.uses c.in-Some.plan (ap (λ (r : RecordOf). r.uses) c.record_at-record.ensures.value) c.if-has_twin.ensures
    (rw c.iter.ensures at c.in-Some.ensures) c.if-has_large_image.ensures

pub returns-then-has_long_text-clause-value : goal.returns-then-has_long_text-clause-value
returns-then-has_long_text-clause-value c =
    plan_long c.args.self.now c.args.number c.record_at-record.result.uses c.in-Some.plan c.record_at-record.result.set_text.bytes.now (ap (λ (r : RecordOf). r.uses) c.record_at-record.ensures.value)
    (ap (λ (r : RecordOf). r.set_text.bytes) c.record_at-record.ensures.value) c.if-has_twin.ensures (rw c.iter.ensures at c.in-Some.ensures) c.if-has_large_image.ensures c.if-has_long_text.ensures

pub returns-clause-value : goal.returns-clause-value
returns-clause-value c =
    plan_good c.args.self.now c.args.number c.record_at-record.result.uses c.in-Some.plan c.record_at-record.result.set_text.bytes.now (ap (λ (r : RecordOf). r.uses) c.record_at-record.ensures.value)
    (ap (λ (r : RecordOf). r.set_text.bytes) c.record_at-record.ensures.value) c.if-has_twin.ensures (rw c.iter.ensures at c.in-Some.ensures) c.if-has_large_image.ensures c.if-has_long_text.ensures
