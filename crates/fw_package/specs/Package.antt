-- A package (DSP0267 1.0): records, which name devices, and components, which are images.
use Rattle.std.specs.Prelude.{ℕ, List}
use Rattle.fw_package.specs.declared.texts.Text.{Text}
use Rattle.fw_package.specs.declared.texts.Descriptor.{Descriptor}

-- a text with its string type
pub record TextOf : Type 0 where
  pub kind : ℕ
  pub bytes : List ℕ

-- a descriptor: its type and its data
pub record DescriptorOf : Type 0 where
  pub kind : ℕ
  pub bytes : List ℕ

-- a device identification record: the numbers of the components that it uses are rising
pub record RecordOf : Type 0 where
  pub flags : ℕ
  pub set_text : TextOf
  pub descriptors : List DescriptorOf
  pub uses : List ℕ

-- a component, with the activation methods that it requests, and its image, which is at this offset
-- from the package's start
pub record ComponentOf : Type 0 where
  pub classification : ℕ
  pub identifier : ℕ
  pub stamp : ℕ
  pub options : ℕ
  pub method : ℕ
  pub offset : ℕ
  pub text : TextOf
  pub image : List ℕ

-- A package. Its release time is a timestamp104 of DSP0240 in its encoded form, 13 bytes.
pub record PackageText : Type 0 where
  pub header_size : ℕ
  pub release : List ℕ
  pub version : TextOf
  pub records : List RecordOf
  pub components : List ComponentOf

-- the same for borrowed values
abbrev pub text_of : Text → TextOf
text_of t = record { kind = t.kind; bytes = t.bytes.now }

abbrev pub descriptor_of : Descriptor → DescriptorOf
descriptor_of d = record { kind = d.kind; bytes = d.bytes.now }
