-- The input of a record.
use Rattle.std.proofs.Common.{◌≡◌, ◌+◌, ◌-◌, ℕ, true, List, drop, take, None, Some, Ok, refl, arith}
use Rattle.fw_trace.specs.Inputs.{Input, captured_size_in, is_mctp, is_whole, number_in, record_input}
use Rattle.fw_trace.specs.declared.capture_reading.ByteOrder.{ByteOrder}

pub whole_record : (order : ByteOrder) (bytes : List ℕ) (turn size : ℕ) → is_whole order bytes ≡ true → is_mctp bytes ≡ true → turn ≡ number_in order bytes
    → size ≡ captured_size_in order bytes
    → ◌≡◌ {A = Input} (Ok (record { turn = Some turn; device = None; bytes = take (16 + size - 32) (drop 32 bytes) })) (record_input order bytes)
unfolding record_input
whole_record order bytes turn size whole mctp time is =
    let fewer : 16 + size - 32 ≡ size - 16 = omega arith in
    rw (whole, mctp, fewer, time, is) refl
