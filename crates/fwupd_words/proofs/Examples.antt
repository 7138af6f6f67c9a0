-- Results of the definition for literal arguments.
use Rattle.std.proofs.Common.{◌≡◌, ◌∷◌, [], List, None, Option, Some, codes, option_map, refl}
use Rattle.clap.proofs.OnLiterals.{clap_on_literals}
use Rattle.clap.specs.Walk.{Row, Text}
use Rattle.clap.specs.Words.{all_of, fault_of, first_of, subcommand_of}
use Rattle.clap.specs.declared.error.kind.ErrorKind.{ErrorKind}
use Rattle.clap.specs.declared.error.kind.ErrorKind.TheVariants.{ArgumentConflict, MissingRequiredArgument, InvalidValue, ValueValidation}
use Rattle.fwupd_words.specs.Clashes.{common_clash, run_clash}
use Rattle.fwupd_words.specs.CommandLine.{Forms, command_line}
use Rattle.fwupd_words.specs.Images.{value_of_image}
use Rattle.fwupd_words.specs.Packages.{package_of, value_of}
use Rattle.fwupd_words.specs.Processes.{agent_clash, device_clash}
use Rattle.fwupd_words.specs.Words.{given_by}

abbrev given : (name : Text) → Option (Text × List Row) → Option (Option Text)
given name = option_map (λ named. first_of name named.1)

-- `build` takes the description's file first
builds : (forms : Forms) → given (codes "SPEC") (subcommand_of (command_line forms) (codes "fwupd" ∷ codes "build" ∷ codes "a" ∷ codes "b" ∷ [])) ≡ Some (Some (codes "a"))
unfolding clap_on_literals
builds forms = refl

-- a package's number is from 1, and 1 by default
plans : (forms : Forms) → given (codes "package") (subcommand_of (command_line forms) (codes "fwupd" ∷ codes "plan" ∷ codes "a" ∷ [])) ≡ Some (Some (codes "1"))
unfolding clap_on_literals
plans forms = refl

no_package : (forms : Forms) → fault_of (command_line forms) (codes "fwupd" ∷ codes "plan" ∷ codes "--package=0" ∷ codes "a" ∷ []) ≡ ValueValidation ∷ []
unfolding clap_on_literals
no_package forms = refl

-- an identifier is 8 to 254
answers : (forms : Forms) → fault_of (command_line forms) (codes "fwupd" ∷ codes "answer" ∷ codes "254" ∷ []) ≡ []
unfolding clap_on_literals
answers forms = refl

no_identifier : (forms : Forms) → fault_of (command_line forms) (codes "fwupd" ∷ codes "answer" ∷ codes "255" ∷ []) ≡ ValueValidation ∷ []
unfolding clap_on_literals
no_identifier forms = refl

-- a soak requires its number of runs, and the name of a store folder must not be empty
no_runs : (forms : Forms) → fault_of (command_line forms) (codes "fwupd" ∷ codes "soak" ∷ codes "a" ∷ []) ≡ MissingRequiredArgument ∷ []
unfolding clap_on_literals
no_runs forms = refl

no_store : (forms : Forms) → fault_of (command_line forms) (codes "fwupd" ∷ codes "replay" ∷ codes "--store=" ∷ codes "a" ∷ codes "b" ∷ []) ≡ InvalidValue ∷ []
unfolding clap_on_literals
no_store forms = refl

-- a unit is 64 or 128 bytes, and a file of packets may be missing
decodes : (forms : Forms) → given (codes "FILE") (subcommand_of (command_line forms) (codes "fwupd" ∷ codes "decode" ∷ [])) ≡ Some None
unfolding clap_on_literals
decodes forms = refl

-- a unit is 1 to 1000 milliseconds, and the name of a folder of sockets must not be empty
no_tick : (forms : Forms) → fault_of (command_line forms) (codes "fwupd" ∷ codes "device" ∷ codes "--tty=p" ∷ codes "--tick=1001" ∷ codes "a" ∷ codes "9" ∷ []) ≡ ValueValidation ∷ []
unfolding clap_on_literals
no_tick forms = refl

no_sockets : (forms : Forms) → fault_of (command_line forms) (codes "fwupd" ∷ codes "agent" ∷ codes "--connect=" ∷ codes "a" ∷ []) ≡ InvalidValue ∷ []
unfolding clap_on_literals
no_sockets forms = refl

-- which options of a node go together
abbrev device_clashes : Forms → List Text → Option (Option ErrorKind)
device_clashes forms words = option_map (λ named. device_clash (given_by named.1)) (subcommand_of (command_line forms) words)

abbrev agent_clashes : Forms → List Text → Option (Option ErrorKind)
agent_clashes forms words = option_map (λ named. agent_clash (given_by named.1)) (subcommand_of (command_line forms) words)

-- each as a filter of lines
device_filter : (forms : Forms) → device_clashes forms (codes "fwupd" ∷ codes "device" ∷ codes "--auto" ∷ codes "a" ∷ codes "9" ∷ []) ≡ Some None
unfolding clap_on_literals
device_filter forms = refl

agent_filter : (forms : Forms) → agent_clashes forms (codes "fwupd" ∷ codes "agent" ∷ codes "--report=r" ∷ codes "a" ∷ []) ≡ Some None
unfolding clap_on_literals
agent_filter forms = refl

-- each as a process
device_process : (forms : Forms) → device_clashes forms (codes "fwupd" ∷ codes "device" ∷ codes "--listen=f" ∷ codes "--take-over" ∷ codes "a" ∷ codes "9" ∷ []) ≡ Some None
unfolding clap_on_literals
device_process forms = refl

agent_process : (forms : Forms) → agent_clashes forms (codes "fwupd" ∷ codes "agent" ∷ codes "--tty=p" ∷ codes "--check" ∷ codes "a" ∷ []) ≡ Some None
unfolding clap_on_literals
agent_process forms = refl

-- both wires, an option of a filter with a wire, and an option of a process without one
both_wires : (forms : Forms) → device_clashes forms (codes "fwupd" ∷ codes "device" ∷ codes "--listen=f" ∷ codes "--tty=p" ∷ codes "a" ∷ codes "9" ∷ []) ≡ Some (Some ArgumentConflict)
unfolding clap_on_literals
both_wires forms = refl

process_reports : (forms : Forms) → device_clashes forms (codes "fwupd" ∷ codes "device" ∷ codes "--tty=p" ∷ codes "--report=r" ∷ codes "a" ∷ codes "9" ∷ []) ≡ Some (Some ArgumentConflict)
unfolding clap_on_literals
process_reports forms = refl

filter_ticks : (forms : Forms) → device_clashes forms (codes "fwupd" ∷ codes "device" ∷ codes "--tick=5" ∷ codes "a" ∷ codes "9" ∷ []) ≡ Some (Some MissingRequiredArgument)
unfolding clap_on_literals
filter_ticks forms = refl

filter_checks : (forms : Forms) → agent_clashes forms (codes "fwupd" ∷ codes "agent" ∷ codes "--check" ∷ codes "a" ∷ []) ≡ Some (Some MissingRequiredArgument)
unfolding clap_on_literals
filter_checks forms = refl

-- the format of a trace needs a trace, and a seed a chance
abbrev run_clashes : Forms → List Text → Option (Option ErrorKind)
run_clashes forms words = option_map (λ named. run_clash (given_by named.1)) (subcommand_of (command_line forms) words)

seed_alone : (forms : Forms) → run_clashes forms (codes "fwupd" ∷ codes "run" ∷ codes "--seed=1" ∷ codes "a" ∷ codes "b" ∷ []) ≡ Some (Some MissingRequiredArgument)
unfolding clap_on_literals
seed_alone forms = refl

seed_of_losses : (forms : Forms) → run_clashes forms (codes "fwupd" ∷ codes "run" ∷ codes "--seed=1" ∷ codes "--loss=0" ∷ codes "a" ∷ codes "b" ∷ []) ≡ Some None
unfolding clap_on_literals
seed_of_losses forms = refl

-- each use of the option adds a device, in the order of the uses, and an identifier is 8 to 254
abbrev given_all : (name : Text) → Option (Text × List Row) → Option (Option (List Text))
given_all name = option_map (λ named. all_of name named.1)

two_devices : (forms : Forms) → given_all (codes "device") (subcommand_of (command_line forms) (codes "fwupd" ∷ codes "run" ∷ codes "--device=10" ∷ codes "a" ∷ codes "--device" ∷ codes "9" ∷ codes "b" ∷ [])) ≡ Some (Some (codes "10" ∷ codes "9" ∷ []))
unfolding clap_on_literals
two_devices forms = refl

all_devices : (forms : Forms) → given_all (codes "device") (subcommand_of (command_line forms) (codes "fwupd" ∷ codes "run" ∷ codes "a" ∷ codes "b" ∷ [])) ≡ Some None
unfolding clap_on_literals
all_devices forms = refl

wide_device : (forms : Forms) → fault_of (command_line forms) (codes "fwupd" ∷ codes "run" ∷ codes "--device=300" ∷ codes "a" ∷ codes "b" ∷ []) ≡ ValueValidation ∷ []
unfolding clap_on_literals
wide_device forms = refl

-- a value is N or EID=N, and no other text
own_of : value_of (codes "9=2") ≡ Some (Some 9, 2)
own_of = refl

common_of : value_of (codes "+2") ≡ Some (None, 2)
common_of = refl

none_of_0 : value_of (codes "9=0") ≡ None
none_of_0 = refl

none_of_7 : value_of (codes "7=1") ≡ None
none_of_7 = refl

none_of_two : value_of (codes "9=2=3") ≡ None
none_of_two = refl

none_of_nothing : value_of [] ≡ None
none_of_nothing = refl

-- a device's own package, and that of all others
own_package : package_of (codes "3" ∷ codes "9=2" ∷ []) 9 ≡ 2
own_package = refl

common_package : package_of (codes "3" ∷ codes "9=2" ∷ []) 10 ≡ 3
common_package = refl

first_package : package_of (codes "9=2" ∷ []) 10 ≡ 1
first_package = refl

-- each use of the option adds a value, and values that don't fit are refused
two_packages : (forms : Forms) → given_all (codes "package") (subcommand_of (command_line forms) (codes "fwupd" ∷ codes "run" ∷ codes "--package=9=2" ∷ codes "a" ∷ codes "--package" ∷ codes "1" ∷ codes "b" ∷ [])) ≡ Some (Some (codes "9=2" ∷ codes "1" ∷ []))
unfolding clap_on_literals
two_packages forms = refl

malformed_package : (forms : Forms) → run_clashes forms (codes "fwupd" ∷ codes "run" ∷ codes "--package=9=" ∷ codes "a" ∷ codes "b" ∷ []) ≡ Some (Some ValueValidation)
unfolding clap_on_literals
malformed_package forms = refl

package_twice : (forms : Forms) → run_clashes forms (codes "fwupd" ∷ codes "run" ∷ codes "--package=9=1" ∷ codes "--package=09=2" ∷ codes "a" ∷ codes "b" ∷ []) ≡ Some (Some ArgumentConflict)
unfolding clap_on_literals
package_twice forms = refl

package_each : (forms : Forms) → run_clashes forms (codes "fwupd" ∷ codes "run" ∷ codes "--package=9=1" ∷ codes "--package=10=2" ∷ codes "--package=1" ∷ codes "a" ∷ codes "b" ∷ []) ≡ Some None
unfolding clap_on_literals
package_each forms = refl

-- a value of an image is EID/CLASS-IDENT=PATH, and no other text; the path may have each separator
image_of_10_1 : value_of_image (codes "16/10-1=run.image") ≡ Some (record { eid = 16; key = record { classification = 10; identifier = 1 }; path = codes "run.image" })
image_of_10_1 = refl

image_of_input : value_of_image (codes "254/65535-0=-") ≡ Some (record { eid = 254; key = record { classification = 65535; identifier = 0 }; path = codes "-" })
image_of_input = refl

image_of_separators : value_of_image (codes "8/0-0=a/b-c=d") ≡ Some (record { eid = 8; key = record { classification = 0; identifier = 0 }; path = codes "a/b-c=d" })
image_of_separators = refl

image_of_7 : value_of_image (codes "7/10-1=a") ≡ None
image_of_7 = refl

image_of_65536 : value_of_image (codes "9/65536-1=a") ≡ None
image_of_65536 = refl

image_of_no_path : value_of_image (codes "9/10-1=") ≡ None
image_of_no_path = refl

image_of_no_component : value_of_image (codes "9=a/10-1") ≡ None
image_of_no_component = refl

image_of_nothing : value_of_image [] ≡ None
image_of_nothing = refl

-- each use of the option adds a value, in the order of the uses, and values that don't fit are
-- refused before all else
two_images : (forms : Forms) → given_all (codes "image") (subcommand_of (command_line forms) (codes "fwupd" ∷ codes "plan" ∷ codes "--image=9/10-1=b" ∷ codes "a" ∷ codes "--image" ∷ codes "9/10-2=c" ∷ [])) ≡ Some (Some (codes "9/10-1=b" ∷ codes "9/10-2=c" ∷ []))
unfolding clap_on_literals
two_images forms = refl

abbrev common_clashes : Forms → List Text → Option (Option ErrorKind)
common_clashes forms words = option_map (λ named. common_clash (given_by named.1)) (subcommand_of (command_line forms) words)

images_fit : (forms : Forms) → common_clashes forms (codes "fwupd" ∷ codes "status" ∷ codes "--image=9/10-1=b" ∷ codes "--image=10/10-1=b" ∷ codes "a" ∷ []) ≡ Some None
unfolding clap_on_literals
images_fit forms = refl

malformed_image : (forms : Forms) → common_clashes forms (codes "fwupd" ∷ codes "status" ∷ codes "--image=9/10=b" ∷ codes "a" ∷ []) ≡ Some (Some ValueValidation)
unfolding clap_on_literals
malformed_image forms = refl

image_twice : (forms : Forms) → common_clashes forms (codes "fwupd" ∷ codes "status" ∷ codes "--image=9/10-1=b" ∷ codes "--image=09/010-1=c" ∷ codes "a" ∷ []) ≡ Some (Some ArgumentConflict)
unfolding clap_on_literals
image_twice forms = refl
