-- What a packet says is written as it is, unless it is no UTF-8.
use Rattle.std.proofs.Common.{◌≡◌, ℕ, Bool, true, false, List, refl}
use Rattle.std.specs.Str.{IsUtf8, is_utf8}
use Rattle.std.proofs.lemmas.Str.{IsUtf8-from_is_utf8, is_utf8-from_IsUtf8}
use Rattle.json.specs.Json.{string}
use Rattle.fw_json.specs.Decoded.{said_value}
use Rattle.fw_json.specs.Values.{text_value}

pub said_words : (text : List ℕ) → IsUtf8 text → said_value text ≡ string text
unfolding said_value
said_words text h = rw (is_utf8-from_IsUtf8 text h) refl

said_by : (text : List ℕ) (b : Bool) → is_utf8 text ≡ b → ¬ (IsUtf8 text) → said_value text ≡ text_value text
unfolding said_value
said_by text true e h = absurd (h (IsUtf8-from_is_utf8 text e))
said_by text false e h = rw e refl

pub said_bytes : (text : List ℕ) → ¬ (IsUtf8 text) → said_value text ≡ text_value text
said_bytes text h = said_by text (is_utf8 text) refl h
