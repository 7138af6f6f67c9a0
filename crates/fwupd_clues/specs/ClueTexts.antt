-- What is printed below the line of a fault, to explain it.
use Rattle.std.specs.Prelude.{ℕ, ◌++◌, List, Option, codes, decimal, option_map}
use Rattle.fw_store.specs.declared.faults.OpenFault.{OpenFault}
use Rattle.fwupd_clues.specs.ClueLines.{step_line}
use Rattle.fwupd_clues.specs.Reasons.{reason_of_store}

-- a path, and what is wrong with its file
abbrev pub reason_text : (path reason : List ℕ) → List ℕ
reason_text path reason = path ++ (codes ": " ++ (reason ++ codes "\n"))

-- the same, and what is shown of the line in which that is
abbrev pub fault_text : (path reason start dots : List ℕ) → List ℕ
fault_text path reason start dots = path ++ (codes ": " ++ (reason ++ (codes ": " ++ (start ++ (dots ++ codes "\n")))))

-- a line of a file, with its number
abbrev pub numbered_text : (path : List ℕ) → (number : ℕ) → (line : List ℕ) → List ℕ
numbered_text path number line = path ++ (codes ": line " ++ (decimal number ++ (codes ": " ++ (line ++ codes "\n"))))

-- the line of a schedule that contains a step, which is counted from 1
abbrev pub step_text : (path text : List ℕ) → (step : ℕ) → Option (List ℕ)
step_text path text step = option_map (λ found. numbered_text path found.0 found.1) (step_line text step)

-- the later version of the standard that a file seems to be a package of
abbrev pub version_text : (path version : List ℕ) → List ℕ
version_text path version = path ++ (codes ": it seems to be a package of DSP0267 " ++ (version ++ codes ", and only those of 1.0 are read\n"))

-- why the store of a device can't be opened: that of its identifier in a folder
abbrev pub store_text : (root : List ℕ) → (device : ℕ) → OpenFault → List ℕ
store_text root device why = root ++ (codes "/" ++ (decimal device ++ (codes ": " ++ (reason_of_store why ++ codes "\n"))))

-- why what the agent keeps in a folder can't be opened
abbrev pub agent_store_text : (root : List ℕ) → OpenFault → List ℕ
agent_store_text root why = root ++ (codes "/agent: " ++ (reason_of_store why ++ codes "\n"))
