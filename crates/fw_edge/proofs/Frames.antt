-- Frames that are read in pieces.
use Rattle.std.proofs.Common.{◌≡◌, ◌≤◌, ◌<◌, ℕ, List, [], ◌∷◌, ◌++◌, length, arith, Option}
use Rattle.std.specs.Io.KnownBytes.{Consumes, IsAtEnd}
use Rattle.std.proofs.KnownBytes.{Consumes-trans}
use Rattle.byteorder.specs.Endian.{little_number}
use Rattle.mctp_wire.specs.declared.unit.Unit.{«Unit»}
use Rattle.fw_edge.specs.Frames.{IsCut, PartOf, ReadCut, ReadPart, most_of}

-- a length, and fewer bytes after it
pub cut_after : (u : «Unit») (head rest : List ℕ) → length head ≡ 2 → length rest < little_number 2 head → little_number 2 head ≤ most_of u → IsCut u (head ++ rest)
cut_after u [] rest two less most = absurd (omega (arith, two))
cut_after u (low ∷ []) rest two less most = absurd (omega (arith, two))
cut_after u (low ∷ high ∷ []) rest two less most = (less, most)
cut_after u (low ∷ high ∷ more ∷ others) rest two less most = absurd (omega (arith, two))

pub part_after : (u : «Unit») (a b c : Option (List ℕ)) (head : List ℕ) (size : ℕ) → length head ≡ 2 → size ≡ little_number 2 head → size ≤ most_of u → Consumes a b head → PartOf b c size → ReadPart u a c
part_after u a b c head size two is most first part = record {
  bytes = head ++ part.bytes;
  cut = cut_after u head part.bytes two (rw (← is) part.part) (rw (← is) most);
  read = Consumes-trans a b c head part.bytes first part.read;
}

pub ends_after : (u : «Unit») (a b c : Option (List ℕ)) (head rest : List ℕ) (size : ℕ) → length head ≡ 2 → size ≡ little_number 2 head → size ≤ most_of u → Consumes a b head → Consumes b c rest → length rest < size → IsAtEnd c → ReadCut u a c
ends_after u a b c head rest size two is most first second less end = record {
  bytes = head ++ rest;
  some = some_first head rest two;
  cut = cut_after u head rest two (rw (← is) less) (rw (← is) most);
  read = Consumes-trans a b c head rest first second;
  end = end;
}
  where
    some_first : (xs ys : List ℕ) → length xs ≡ 2 → 1 ≤ length (xs ++ ys)
    some_first [] ys e = absurd (omega (arith, e))
    some_first (x ∷ xs) ys e = omega arith
