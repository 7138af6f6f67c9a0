-- From the contracts of the calls that make a command to the definition of the command line.
use Rattle.std.proofs.Common.{◌≡◌, ◌∙◌, true, false, not, List, [], ◌∷◌, map, sym, ap, ap₂, is_some}
use Rattle.std.proofs.lemmas.List.{append-nil, append_assoc}
use Rattle.clap.specs.Walk.{is_empty, is_simple_arg}
use Rattle.clap.specs.Words.{AddsArg, AddsInTurn, AddsSubcommand, App, Rule, app_of, rule_of, with_rule}
use Rattle.clap.specs.declared.builder.arg.Arg.{Arg}
use Rattle.clap.specs.declared.builder.command.Command.{Command}
use Rattle.clap.proofs.SimpleLemmas.{is_false, plain_fields}
use Rattle.clap.proofs.WalkLemmas.{both}
use Rattle.fwupd_words.specs.CommandLine.{are_simple, is_plain, with_one, with_rules}

-- an argument that doesn't change how arguments are parsed is local to its command
simple_local : (a : Arg) → is_simple_arg a ≡ true → a.global ≡ false
simple_local a e =
    let p = both (is_empty a.overrides.items) _ e in
    let q = both (is_empty a.default_vals_ifs.items) _ p.1 in
    let r = both (is_empty a.groups.items) _ q.1 in
    let s = both (not (is_some a.val_delim)) _ r.1 in
    let t = both (not (is_some a.terminator)) _ s.1 in
    let u = both (not a.allow_hyphen_values) _ t.1 in
    let v = both (not a.allow_negative_numbers) _ u.1 in
    let w = both (not a.require_equals) _ v.1 in
    is_false a.global (both (not a.last) _ w.1).1

no_more : (a : App) → with_rules a [] ≡ a
no_more a = ap (λ rules. record a { top = record a.top { rules = rules } }) (append-nil a.top.rules)

one_more : (a : App) (r : Rule) (rs : List Rule) → with_rules (with_rule a r) rs ≡ with_rules a (r ∷ rs)
one_more a r rs = ap (λ rules. record a { top = record a.top { rules = rules } }) (append_assoc a.top.rules (r ∷ []) rs)

-- a command to which arguments are added has their rules
pub adds_rules : (old new : Command) (args : List Arg) → AddsInTurn AddsArg old args new → are_simple (map rule_of args) ≡ true
    → app_of new ≡ with_rules (app_of old) (map rule_of args)
adds_rules old new [] added simple = ap app_of (sym added) ∙ sym (no_more (app_of old))
adds_rules old new (x ∷ xs) added simple =
    let parts = both (is_simple_arg x) _ simple in
    adds_rules added.0 new xs added.2 parts.1
    ∙ (ap (λ a. with_rules a (map rule_of xs)) (added.1.shape (simple_local x parts.0)) ∙ one_more (app_of old) (rule_of x) (map rule_of xs))

-- a command to which a plain subcommand is added has the subcommand's shape
pub adds_one : (old one new : Command) → AddsSubcommand old one new → is_plain (app_of one) ≡ true → app_of new ≡ with_one (app_of old) (app_of one)
adds_one old one new added plain = added.shape (plain_fields one plain).globals

-- the same, if both definitions are known
pub then_one : (old one new : Command) (a b : App) → (is_plain (app_of one) ≡ true → app_of new ≡ with_one (app_of old) (app_of one))
    → app_of old ≡ a → app_of one ≡ b → is_plain b ≡ true → app_of new ≡ with_one a b
then_one old one new a b added old_is one_is plain = added (ap is_plain one_is ∙ plain) ∙ ap₂ with_one old_is one_is
