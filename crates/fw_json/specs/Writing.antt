-- The tokens that a piece of a value appends.
use Rattle.std.specs.Prelude.{◌≡◌, List, ◌++◌}
use Rattle.json.specs.Token.{Token}
use Rattle.json.specs.Written.{Written}

-- the new tokens are the old ones, then `ts`, and the text before the first token is unchanged
pub record AppendsTokens (old new : Written) (ts : List Token) : Type 0 where
  pub tokens : new.tokens ≡ old.tokens ++ ts
  pub before : new.before ≡ old.before
