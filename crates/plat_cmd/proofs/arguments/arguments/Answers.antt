use Rattle.std.proofs.Common.{◌≡◌, ◌∙◌, Some, ap, ap₂, refl, codes, rules}
use Rattle.std.proofs.lemmas.Result.{IfErr-weaker, IfOk-weaker}
use Rattle.clap.specs.Words.{App, Rule, app_of, found_of, is_simple, rule_of, takes, with_rule}
use Rattle.clap.specs.Walk.{all_of}
use Rattle.clap.specs.Simple.{app_of_fields, matches_of}
use Rattle.clap.proofs.WalkLemmas.{raw_values-rows}
use Rattle.plat_cmd.specs.Arguments.{texts_of}
use Rattle.plat_cmd.proofs.ArgumentLemmas.{values, without_name, without_help, command, command-simple, plain_read, range-is}
use Rattle.plat_cmd.proofs.arguments.arguments.Goals as goal

pub returns : goal.returns
returns c =
    let range : c.num_args-values.result.num_vals ≡ Some (record { start_inclusive = 1; end_inclusive = 3 }) =
    range-is _ _ c.num_args-values.ensures.1 ∙ ap Some (rw (c.new-2.ensures.start, c.new-2.ensures.end) refl) in
    let rule_is : rule_of c.num_args-values.result ≡ values =
    ap rule_of c.num_args-values.ensures.0 ∙ ap₂ (λ (r : Rule) n. record r { range = n }) c.new.ensures.rule range in
    let named = ap app_of_fields c.no_binary_name.ensures ∙ ap without_name c.new-3.ensures.app in
    let helpless = ap app_of_fields c.disable_help_flag.ensures ∙ ap without_help named in
    let app_is : app_of c.in_ok-command.command ≡ command =
    c.in_ok-command.ensures.shape (search rules) ∙ ap₂ with_rule helpless rule_is in
    let words = texts_of c.args.words.now in
    let parse = c.try_get_matches_from in
    let read = plain_read words c.requires in
    let taken = ap (λ (a : App). takes a words) app_is ∙ read.taken in
    let all = ap (λ (a : App). all_of (codes "words") (matches_of a words)) app_is ∙ read.read
    in record {
      values = IfOk-weaker parse.result _ _
          (λ m h. raw_values-rows (found_of m) (codes "words")
          ∙ (ap (all_of (codes "words")) (h (ap is_simple app_is ∙ command-simple)).0 ∙ all))
          parse.ensures.matches;
      memory = IfErr-weaker parse.result _ _ (λ e h. h taken) parse.ensures.passes;
    }
