-- The numbers of DSP0267 1.0 in a device's answers and reports, with the standard's names.
use Rattle.std.specs.Prelude.{ℕ}

-- completion codes
abbrev pub not_in_update_mode : ℕ
not_in_update_mode = 0x80

abbrev pub already_in_update_mode : ℕ
already_in_update_mode = 0x81

abbrev pub invalid_state_for_command : ℕ
invalid_state_for_command = 0x84

abbrev pub incomplete_update : ℕ
incomplete_update = 0x85

abbrev pub activation_not_required : ℕ
activation_not_required = 0x8B

-- compatibility of a component's response
abbrev pub can_be_updated : ℕ
can_be_updated = 0

abbrev pub cannot_be_updated : ℕ
cannot_be_updated = 1

-- codes of a component's response
abbrev pub no_restriction : ℕ
no_restriction = 0

abbrev pub stamp_identical : ℕ
stamp_identical = 1

abbrev pub stamp_lower : ℕ
stamp_lower = 2

abbrev pub not_supported : ℕ
not_supported = 6

-- results of TransferComplete, VerifyComplete and ApplyComplete
abbrev pub result_success : ℕ
result_success = 0

abbrev pub transfer_failed : ℕ
transfer_failed = 0x70

abbrev pub verification_failed : ℕ
verification_failed = 0x90

abbrev pub application_failed : ℕ
application_failed = 0xB0

-- a stamp that isn't compared
abbrev pub no_stamp : ℕ
no_stamp = 0xFFFFFFFF

-- the longest image
abbrev pub longest_image : ℕ
longest_image = 1048576

-- the most components of an update
abbrev pub most_components : ℕ
most_components = 8

-- the ticks without a change after which an update ends
abbrev pub patience : ℕ
patience = 240

-- the bytes of a version text that a device keeps
abbrev pub kept_text : ℕ
kept_text = 12

-- the progress of a device that doesn't report it
abbrev pub progress_unsupported : ℕ
progress_unsupported = 0x65
