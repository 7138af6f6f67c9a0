-- The losses of power by hand, judged.
use Rattle.std.proofs.Common.{◌≡◌, ◌≢◌, ◌⊎◌, inl, inr, ℕ, List, Option, Some, None, refl}
use Rattle.fw_store.specs.Folders.{active_name, new_name}
use Rattle.fw_store.specs.DiskCases.{RenamingsAreJudged, files_with, image_file, is_there, new_image, new_text, old_text, other_image, stored_files}
use Rattle.fw_store.proofs.Changes.{differs}

-- two folders with the same image differ in the other two names only
same_image : (image active new other newer : Option (List ℕ)) → is_there (files_with image active new) (files_with image other newer)
same_image image active new other newer = record { others = λ name a b. rw (differs active_name name b, differs new_name name a) refl }

image_not_new : image_file ≢ new_name
image_not_new e = absurd (cc)

image_not_active : image_file ≢ active_name
image_not_active e = absurd (cc)

-- an image that isn't the stored one
not_there : (image other active new active' new' : Option (List ℕ)) → other ≢ image → is_there (files_with image active new) (files_with other active' new') → ⊥
not_there image other active new active' new' differ h = differ (h.others image_file image_not_new image_not_active)

none_not_some : (bytes : List ℕ) → None ≢ Some bytes
none_not_some bytes e = absurd (cc)

some_not_none : (bytes : List ℕ) → Some bytes ≢ None
some_not_none bytes e = absurd (cc)

other_not_new : Some other_image ≢ Some new_image
other_not_new e = absurd (cc)

new_not_old : Some new_text ≢ Some old_text
new_not_old e = absurd (cc)

refused : (image active : Option (List ℕ)) → active ≢ Some old_text → image ≢ Some new_image → (active ≡ Some old_text) ⊎ is_there stored_files (files_with image active None) → ⊥
refused image active renamed differ (inl same) = renamed same
refused image active renamed differ (inr lasts) = not_there (Some new_image) image (Some old_text) (Some new_text) active None differ lasts

pub renamings_are_judged : RenamingsAreJudged
renamings_are_judged = record {
  order_accepts = record {
    none = λ settled. inl refl;
    image = λ settled. inl refl;
    both = λ settled. inl refl;
    renamed = λ settled. inr (same_image (Some new_image) (Some old_text) (Some new_text) (Some new_text) None);
    twice = λ settled. inr (same_image (Some new_image) (Some old_text) (Some new_text) (Some new_text) (Some new_text));
  };
  order_refuses = record {
    too_soon = λ h. refused None (Some new_text) new_not_old (none_not_some new_image) (h refl);
    other_bytes = λ h. refused (Some other_image) (Some new_text) new_not_old other_not_new (h refl);
    all_lost = λ h. refused None None (none_not_some old_text) (none_not_some new_image) (h refl);
  };
  order_open = record { unsettled = λ settled. absurd (some_not_none old_text settled) };
  lasts_accepts = record { free = λ active new. same_image (Some new_image) (Some old_text) (Some new_text) active new };
  lasts_refuses = record {
    missing = λ active new h. not_there (Some new_image) None (Some old_text) (Some new_text) active new (none_not_some new_image) h;
    other_bytes = λ active new h. not_there (Some new_image) (Some other_image) (Some old_text) (Some new_text) active new other_not_new h;
    not_stored = λ active new h. not_there None (Some new_image) (Some old_text) None active new (some_not_none new_image) h;
  };
}
