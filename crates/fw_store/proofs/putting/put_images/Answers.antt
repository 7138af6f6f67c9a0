use Rattle.std.proofs.Common.{◌∙◌, arith}
use Rattle.fw_store.proofs.Moments.{came_or_not, came_through, unput_apart, unput_through, through_either}
use Rattle.fw_store.proofs.putting.put_images.Goals as goal

pub returns-in-Ok-put_text-clause-moments : goal.returns-in-Ok-put_text-clause-moments
returns-in-Ok-put_text-clause-moments g c = λ k.
    came_through c.args.number c.args.images.now c.args.entries.now _ _ _ _ _ _ (omega arith) (c.in-Ok-write_images.ensures.ok k)
    (rw (c.deref.ensures.value ∙ c.in-Ok.ensures) at (c.in-Ok-put_text.ensures.ok (c.in-Ok-write_images.ensures.known ∙ k)))

pub returns-in-Err-Unchanged-clause-unchanged : goal.returns-in-Err-Unchanged-clause-unchanged
returns-in-Err-Unchanged-clause-unchanged g c = λ same k.
    unput_apart c.args.number _ _ _ _ _ _ (omega arith) (c.in-Ok-write_images.ensures.ok k).stopped
    (c.in-Err-Unchanged.ensures.unchanged c.in-Err-Unchanged.field-0-is (c.in-Ok-write_images.ensures.known ∙ k))

pub returns-in-Err-Unchanged-clause-moments : goal.returns-in-Err-Unchanged-clause-moments
returns-in-Err-Unchanged-clause-moments g c = λ k.
    unput_through c.args.number c.args.images.now c.args.entries.now _ _ _ _ _ _ (omega arith) (c.in-Ok-write_images.ensures.ok k).stopped
    (c.in-Err-Unchanged.ensures.unchanged c.in-Err-Unchanged.field-0-is (c.in-Ok-write_images.ensures.known ∙ k))

pub returns-clause-unsure : goal.returns-clause-unsure
returns-clause-unsure g c = λ same k.
    came_or_not c.args.number c.args.images.now c.args.entries.now _ _ _ _ _ _ (omega arith) (c.in-Ok-write_images.ensures.ok k)
    (rw (c.deref.ensures.value ∙ c.in-Ok.ensures) at (c.in-Err-Unsure.ensures.unsure c.in-Err-Unsure.field-0-is (c.in-Ok-write_images.ensures.known ∙ k)))

pub returns-clause-moments : goal.returns-clause-moments
returns-clause-moments g c = λ k.
    through_either c.args.number c.args.images.now c.args.entries.now _ _ _ _ _ _ (omega arith) (c.in-Ok-write_images.ensures.ok k)
    (rw (c.deref.ensures.value ∙ c.in-Ok.ensures) at (c.in-Err-Unsure.ensures.unsure c.in-Err-Unsure.field-0-is (c.in-Ok-write_images.ensures.known ∙ k)))
