-- The node that goes on with what a folder keeps.
use Rattle.std.proofs.Common.{◌≡◌, ◌∙◌, ℕ, Bool, true, false, IfSome, List, None, Option, Some, option_and_then, refl, subst, sym}
use Rattle.agent_store.specs.Packages.{ClaimsFolder, packages_name, packages_text}
use Rattle.fw_node.specs.Agents.{AgentOf, new_agent}
use Rattle.fw_store.specs.AgentKeeping.{agent_lines_in}
use Rattle.fw_store.specs.AgentText.{agent_lines_of}
use Rattle.fw_store.specs.Folders.{Files, active_name}
use Rattle.fw_store.specs.declared.kept_line.KeptLine.{KeptLine}
use Rattle.fwupd_nodes.specs.AgentStores.{AgentSetupOf, BeginsWithStore, IsAgentNode, IsNodeBy, IsResumed}
use Rattle.fwupd_nodes.specs.Hosts.{agent_store_in}
use Rattle.mctp_ctl.specs.declared.answers.Endpoint.{Endpoint}
use Rattle.mctp_wire.specs.declared.unit.Unit.{«Unit»}

pub goes_on : (files : Files) (u : «Unit») (e : Endpoint) (ds : List ℕ) (ls : List KeptLine) (n : AgentOf) → agent_lines_in files ≡ Some ls → IsResumed u e ds ls n
    → IsAgentNode files u e ds n
goes_on files u e ds ls n is resumed = subst (λ (o : Option (List KeptLine)). IsNodeBy (files active_name) o u e ds n) (sym is) resumed

pub goes_new : (files : Files) (u : «Unit») (e : Endpoint) (ds : List ℕ) (n : AgentOf) → files active_name ≡ None → n ≡ new_agent u e ds → IsAgentNode files u e ds n
goes_new files u e ds n none is = subst (λ (o : Option (List ℕ)). IsNodeBy o (option_and_then agent_lines_of o) u e ds n) (sym none) is

pub ruleset nodes = (goes_on, goes_new)

-- the folder isn't refused for the packages, and the node goes on with what it keeps
pub begins_claimed : (f g : Files) (s : AgentSetupOf) (n : AgentOf) → ClaimsFolder (packages_text s.contents) f g → IsAgentNode f s.unit s.endpoint s.eids n → BeginsWithStore f s n
begins_claimed f g s n claims node = record { claimed = claims.allowed; node = node }

pub begins_with : (known : Bool) (files : (root : List ℕ) → Files) (root : List ℕ) (is_known : Bool) (f : Files) (s : AgentSetupOf) (n : AgentOf)
    → (known ≡ true → is_known ≡ true) → (known ≡ true → f ≡ files root) → (is_known ≡ true → BeginsWithStore f s n) → IfSome (agent_store_in known files root) (λ h. BeginsWithStore h s n)
begins_with false files root is_known f s n knows is begins = tt
begins_with true files root is_known f s n knows is begins = subst (λ (h : Files). BeginsWithStore h s n) (is refl) (begins (knows refl))

-- and then it has the text of the packages
pub claimed_here : (was known : Bool) (f g : Files) (text : List ℕ) → known ≡ was → (was ≡ true → ClaimsFolder text f g) → known ≡ true → g packages_name ≡ Some text
claimed_here was known f g text same claims is = (claims (sym same ∙ is)).puts.here

pub ruleset begins = (begins_claimed, begins_with, claimed_here)
