-- Descriptors, and the room that they take.
use Rattle.std.proofs.Common.{◌≡◌, ◌≤◌, ◌+◌, ◌++◌, List, [], ◌∷◌, arith, length, subst, sym}
use Rattle.std.proofs.lemmas.List.{length-append}
use Rattle.fwup_wire.specs.Descriptors.{descriptor_bytes, descriptors_bytes}
use Rattle.fwup_wire.specs.Values.{DeviceDescriptorOf}

bytes_split : (xs ys : List DeviceDescriptorOf) → length (descriptors_bytes (xs ++ ys)) ≡ length (descriptors_bytes xs) + length (descriptors_bytes ys)
bytes_split [] ys = omega arith
bytes_split (x ∷ xs) ys =
    let more = bytes_split xs ys in
    let all = length-append (descriptor_bytes x) (descriptors_bytes (xs ++ ys)) in
    let here = length-append (descriptor_bytes x) (descriptors_bytes xs) in
    omega arith

bytes_first : (d : DeviceDescriptorOf) (rest : List DeviceDescriptorOf) → 4 + length d.bytes ≤ length (descriptors_bytes (d ∷ rest))
bytes_first d rest =
    let all = length-append d.bytes (descriptors_bytes rest) in
    omega arith

pub room_left : (same : List DeviceDescriptorOf) (d : DeviceDescriptorOf) (rest all : List DeviceDescriptorOf) → same ++ d ∷ rest ≡ all → length (descriptors_bytes all) ≤ 246
    → length (descriptors_bytes same) + (4 + length d.bytes) ≤ 246
room_left same d rest all e few =
    let there : length (descriptors_bytes (same ++ d ∷ rest)) ≤ 246 = subst (λ xs. length (descriptors_bytes xs) ≤ 246) (sym e) few in
    let split = bytes_split same (d ∷ rest) in
    let first = bytes_first d rest in
    omega arith
