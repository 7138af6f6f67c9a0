-- What is wrong with a line of a configuration, a schedule or a package's description, or with a
-- store, and why a file can't be written, in words.
use Rattle.std.specs.Prelude.{ℕ, List, codes}
use Rattle.fw_script.specs.declared.faults.ScriptCause.{ScriptCause}
use Rattle.fw_script.specs.declared.faults.ScriptCause.TheVariants as causes
use Rattle.fw_store.specs.declared.faults.OpenFault.{OpenFault}
use Rattle.fw_store.specs.declared.faults.OpenFault.TheVariants as stores
use Rattle.fwupd_clues.specs.declared.unwritten.Unwritten.{Unwritten}
use Rattle.fwupd_clues.specs.declared.unwritten.Unwritten.TheVariants as files

abbrev pub reason_of : ScriptCause → List ℕ
reason_of causes.Directive = codes "no line of this format begins with this word"
reason_of causes.Fields = codes "there are too few words, or too many"
reason_of causes.Order = codes "such a line may not be here"
reason_of causes.Number = codes "a number isn't all digits, a word isn't known, a UUID is malformed, or a path isn't UTF-8"
reason_of causes.Hex = codes "bytes aren't an even number of hexadecimal digits, or a descriptor's type isn't four"
reason_of causes.Range = codes "a number is outside its bounds"
reason_of causes.Duplicate = codes "what it names is there already"
reason_of causes.Limit = codes "there are more of these, or more bytes, than is allowed"
reason_of causes.Missing = codes "the agent, a device, or a device's component is missing"
reason_of causes.Memory = codes "memory was refused"

abbrev pub reason_of_store : OpenFault → List ℕ
reason_of_store stores.Damaged = codes "'active' there isn't as it was written, or an image that it names isn't there as it was"
reason_of_store stores.Foreign = codes "what it keeps is of components, devices or packages that CONFIG lacks"
reason_of_store stores.Unreadable = codes "it can't be read, or can't be made"
reason_of_store stores.Memory = codes "memory was refused"

abbrev pub reason_of_unwritten : Unwritten → List ℕ
reason_of_unwritten files.NotPlain = codes "it is no plain file"
reason_of_unwritten files.Dangling = codes "it is a link to no file"
reason_of_unwritten files.Another = codes "it is another file of this command, too"
reason_of_unwritten files.InStore = codes "it is in the folder of --store"
reason_of_unwritten files.Unknown = codes "writing failed, and its disk may be full"
