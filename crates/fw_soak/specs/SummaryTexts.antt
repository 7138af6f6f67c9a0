-- The text of the totals: a line for each number, or an object of JSON with a member for each.
use Rattle.std.specs.Prelude.{ℕ, List, ◌++◌, codes}
use Rattle.fw_text.specs.Printing.{word_and_number}
use Rattle.fwupd_base.specs.declared.forms.Form.{Form}
use Rattle.fwupd_base.specs.declared.forms.Form.TheVariants as forms
use Rattle.fw_soak.specs.declared.summary.Summary.{Summary}

abbrev pub line_of : List ℕ → ℕ → List ℕ
line_of word n = word_and_number word n ++ codes "\n"

abbrev pub summary_text : Summary → List ℕ
summary_text s =
    line_of (codes "runs ") s.runs ++ line_of (codes "activations ") s.activations ++ line_of (codes "losses ") s.losses
    ++ line_of (codes "restarts ") s.restarts ++ line_of (codes "longest ") s.longest ++ line_of (codes "violations ") s.violations

abbrev pub summary_json : Summary → List ℕ
summary_json s =
    word_and_number (codes "{\"format\":\"fwupd-soak/1\",\"runs\":") s.runs
    ++ word_and_number (codes ",\"activations\":") s.activations
    ++ word_and_number (codes ",\"losses\":") s.losses ++ word_and_number (codes ",\"restarts\":") s.restarts
    ++ word_and_number (codes ",\"longest\":") s.longest ++ word_and_number (codes ",\"violations\":") s.violations ++ codes "}\n"

-- the totals in a format
abbrev pub summary_in : Form → Summary → List ℕ
summary_in forms.Text s = summary_text s
summary_in forms.Json s = summary_json s
