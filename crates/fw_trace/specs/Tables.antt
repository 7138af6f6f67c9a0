-- The text of bytes by a table of their fields.
use Rattle.std.specs.Prelude.{ℕ, ◌+◌, ◌*◌, ◌==◌, nat_le, ◌&&◌, Bool, if◌then◌else◌, List, [], ◌∷◌, ◌++◌, length, take, drop}
use Rattle.std.specs.Borrow.{Bor}
use Rattle.fw_text.specs.Printing.{word_and_number}
use Rattle.fw_trace.specs.declared.names.CodeTable.{CodeTable}
use Rattle.fw_trace.specs.declared.tables.Form.{Form}
use Rattle.fw_trace.specs.declared.tables.Form.TheVariants as forms
use Rattle.fw_trace.specs.Names.{code_name, name_or_digits}
use Rattle.fw_trace.specs.Pieces.{in_digits, rest_text}

-- a field: the word before it, and its form
abbrev pub FieldOf : Type 0
FieldOf = List ℕ × Form

abbrev pub field_of : Bor (List ℕ) × Form → FieldOf
field_of f = (f.0.now, f.1)

-- the size of a field, by the bytes from its first on
abbrev pub field_size : Form → List ℕ → ℕ
field_size forms.Number bytes = 1
field_size forms.Byte bytes = 1
field_size (forms.Digits size) bytes = size
field_size forms.Handle bytes = 4
field_size forms.Rest bytes = length bytes
field_size (forms.List size) [] = 0
field_size (forms.List size) (count ∷ items) = size * count + 1

-- a field's word and the text of its bytes
abbrev pub field_text : FieldOf → List ℕ → List ℕ
field_text (word, forms.Number) (n ∷ []) = word_and_number word n
field_text (word, forms.Handle) (h0 ∷ h1 ∷ h2 ∷ h3 ∷ []) = in_digits word (h3 ∷ h2 ∷ h1 ∷ h0 ∷ [])
field_text (word, forms.List size) [] = []
field_text (word, forms.List size) (count ∷ items) = word_and_number word count ++ rest_text items
field_text (word, form) bytes = in_digits word bytes

-- whether the fields take exactly these bytes
abbrev pub is_table_of : List FieldOf → List ℕ → Bool
is_table_of [] bytes = length bytes == 0
is_table_of (f ∷ fs) bytes = nat_le (field_size f.1 bytes) (length bytes) && is_table_of fs (drop (field_size f.1 bytes) bytes)

-- the fields, in order, of bytes that are exactly theirs
abbrev pub fields_text : List FieldOf → List ℕ → List ℕ
fields_text [] bytes = []
fields_text (f ∷ fs) bytes =
    field_text f (take (field_size f.1 bytes) bytes) ++ fields_text fs (drop (field_size f.1 bytes) bytes)

-- the fields of a table, or the digits of bytes that aren't exactly its fields
abbrev pub table_text : List FieldOf → List ℕ → List ℕ
table_text fields bytes = if is_table_of fields bytes then fields_text fields bytes else rest_text bytes

-- an answer's code and, by the table of a success, the bytes after it
abbrev pub answer_body_text : CodeTable → List FieldOf → List ℕ → List ℕ
answer_body_text codes fields [] = []
answer_body_text codes fields (code ∷ rest) =
    name_or_digits (code_name codes code) code ++ (if code == 0 then table_text fields rest else rest_text rest)
