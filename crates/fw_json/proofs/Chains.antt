-- Appending the pieces one by one appends their concatenation.
use Rattle.std.proofs.Common.{◌≡◌, ◌∙◌, List, ◌++◌, append_assoc, ap, refl}
use Rattle.json.specs.Token.{Token}
use Rattle.json.specs.Written.{Written}
use Rattle.fw_json.specs.Writing.{AppendsTokens}

pub tells_more : {w w1 w2 : Written} {a b : List Token} → AppendsTokens w w1 a → AppendsTokens w1 w2 b → AppendsTokens w w2 (a ++ b)
tells_more {w} {w1} {w2} {a} {b} first second = record {
  tokens = rw (second.tokens, first.tokens, append_assoc w.tokens a b) refl;
  before = second.before ∙ first.before;
}

-- appending one more piece leaves the rest to append
pub told_more : (w w1 : Written) (rest all piece : List Token) → w.tokens ++ (piece ++ rest) ≡ all → AppendsTokens w w1 piece → w1.tokens ++ rest ≡ all
told_more w w1 rest all piece told tells = ap (λ ts. ts ++ rest) tells.tokens ∙ append_assoc w.tokens piece rest ∙ told

pub ruleset telling = (told_more)
