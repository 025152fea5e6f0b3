-- What a job is, by the rows of the command that was met; and that the program's command is simple.
use Rattle.std.proofs.Common.{◌≡◌, List, [], Option, Some, None, Result, Ok, Err, option_map, true, false, refl, ap, ap₂, ◌∙◌, Bor}
use Rattle.std.specs.Option.{unwrap_or}
use Rattle.std.specs.Prelude.{IfOk, IsOkAnd}
use Rattle.clap.specs.Words.{AddsArg, AddsSubcommand, App, Row, Rule, Text, is_simple, is_simple_and_free, with_rule, with_subcommand}
use Rattle.clap.specs.declared.builder.Arg.{Arg}
use Rattle.clap.specs.declared.builder.Command.{Command}
use Rattle.clap.proofs.OnLiterals.{clap_on_literals}
use Rattle.pay_cli.specs.Job.{IsArgument, IsCommand, job_of_command, asked_of, check, payd_app}

pub view_of_job-some : {A : Type 0} (name_of : A → Text) (rows_in : A → List Row) (met : Option A) (name : Text) (rows : List Row)
    → Some name ≡ option_map name_of met
    → Some rows ≡ option_map (λ (p : Text × List Row). p.1) (option_map (λ a. (name_of a, rows_in a)) met)
    → asked_of name rows ≡ job_of_command (option_map (λ a. (name_of a, rows_in a)) met)
view_of_job-some name_of rows_in None name rows h k = absurd cc
view_of_job-some name_of rows_in (Some a) name rows h k =
    let same_name : name ≡ name_of a = cc in
    let same_rows : rows ≡ rows_in a = cc in
    ap₂ asked_of same_name same_rows

-- the values that an argument was given, or none
pub given-some : (all : Option (List Text)) (values : List Text) → Some values ≡ all → values ≡ unwrap_or all []
given-some None values h = absurd cc
given-some (Some all) values h = let same : values ≡ all = cc in same

pub given-none : (all : Option (List Text)) → None ≡ all → [] ≡ unwrap_or all []
given-none None h = refl
given-none (Some all) h = absurd cc

-- the text that is lent, or another
pub text_or : (lent : Option (Bor Text)) (other : Bor Text)
    → (unwrap_or lent other).now ≡ unwrap_or (option_map (λ (s : Bor Text). s.now) lent) other.now
text_or None other = refl
text_or (Some s) other = refl

pub view_of_job-none : (met : Option (Text × List Row)) → None ≡ option_map (λ p. p.1) met → check None None false ≡ job_of_command met
view_of_job-none None h = refl
view_of_job-none (Some p) h = absurd cc

pub simple : is_simple payd_app ≡ true
unfolding clap_on_literals
simple = refl

pub free : is_simple_and_free payd_app ≡ true
unfolding clap_on_literals
free = refl

-- a command with one argument more
pub one_argument_more : (before after : Command) (o : Arg) (a : App) (r : Rule) → IsCommand before a → IsArgument o r → AddsArg before o after → IsCommand after (with_rule a r)
one_argument_more before after o a r command argument adds = record {
  app = adds.shape argument.global ∙ ap₂ with_rule command.app argument.rule;
  globals = rw (adds.globals, command.globals, argument.global) refl;
}

-- a program with one command more
pub one_command_more : {E : Type 0} (program command with : Result Command E) (a b : App) → IfOk program (λ c. IsCommand c a) → IfOk command (λ c. IsCommand c b)
    → IfOk with (λ w. IsOkAnd program (λ p. IsOkAnd command (λ c. AddsSubcommand p c w))) → IfOk with (λ w. IsCommand w (with_subcommand a b.top))
one_command_more (Ok p) (Ok c) (Ok w) a b program command adds = record {
  app = adds.shape command.globals ∙ ap₂ with_subcommand program.app (ap (λ (b : App). b.top) command.app);
  globals = rw (adds.globals, program.globals, command.globals) refl;
}
one_command_more (Ok p) (Err e) (Ok w) a b program command adds = absurd adds
one_command_more (Err e) command (Ok w) a b program is adds = absurd adds
one_command_more program command (Err e) a b is said adds = tt
