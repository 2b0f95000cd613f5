-- Commands and arguments by what the parser reads of them: with one setting more, one argument more and one command more.
use Rattle.std.proofs.Common.{◌≡◌, ap, ◌∙◌, refl, Bool, true, false, ◌||◌, Bor, List, ℕ, ◌+◌, ◌<◌, length, fold, map, take, get_or}
use Rattle.std.proofs.lemmas.List.{map_more}
use Rattle.std.proofs.lemmas.List.Sums.{fold_push}
use Rattle.std.specs.Prelude.{IsSomeAnd, Option, Some, None}
use Rattle.clap.specs.declared.builder.action.ArgAction.{ArgAction}
use Rattle.clap.specs.declared.builder.arg.Arg.{Arg}
use Rattle.clap.specs.declared.builder.command.Command.{Command}
use Rattle.clap.specs.declared.builder.command.Command.TheViews.{out-Command}
use Rattle.clap.specs.declared.builder.texts.Texts.TheVariants.{One}
use Rattle.clap.specs.declared.builder.range.ValueRange.{ValueRange}
use Rattle.clap.specs.Lexer.{usize_max}
use Rattle.clap.specs.Simple.{Shape, app_of_fields, on_top}
use Rattle.desk_words.specs.DeskCommands.{more, needed}
use Rattle.clap.specs.Words.{AddsArg, AddsSubcommand, App, Rule, Text, app_of, rule_of, shape_of, with_rule, with_subcommand}
use Rattle.desk_words.specs.Inside.Commands.{HasApp, HasRule}

pub rule_long : (a b : Arg) (rule : Rule) (name : Bor Text) → HasRule a rule → b ≡ record a { long = Some name }
    → HasRule b (record rule { long = Some name.now })
rule_long a b rule name has e = record {
  rule_is = ap rule_of e ∙ ap (λ (r : Rule). record r { long = Some name.now }) has.rule_is;
  own = ap (λ (x : Arg). x.global) e ∙ has.own;
}

pub rule_short : (a b : Arg) (rule : Rule) (letter : ℕ) → HasRule a rule → b ≡ record a { short = Some letter }
    → HasRule b (record rule { short = Some letter })
rule_short a b rule letter has e = record {
  rule_is = ap rule_of e ∙ ap (λ (r : Rule). record r { short = Some letter }) has.rule_is;
  own = ap (λ (x : Arg). x.global) e ∙ has.own;
}

pub rule_value : (a b : Arg) (rule : Rule) (name : Bor Text) → HasRule a rule → b ≡ record a { val_names = One name }
    → HasRule b (record rule { value_names = 1 })
rule_value a b rule name has e = record {
  rule_is = ap rule_of e ∙ ap (λ (r : Rule). record r { value_names = 1 }) has.rule_is;
  own = ap (λ (x : Arg). x.global) e ∙ has.own;
}

pub rule_help : (a b : Arg) (rule : Rule) (text : Bor Text) → HasRule a rule → b ≡ record a { help = Some text } → HasRule b rule
rule_help a b rule text has e = record {
  rule_is = ap rule_of e ∙ has.rule_is;
  own = ap (λ (x : Arg). x.global) e ∙ has.own;
}

pub rule_action : (a b : Arg) (rule : Rule) (action : ArgAction) → HasRule a rule → b ≡ record a { action = Some action }
    → HasRule b (record rule { action = Some action })
rule_action a b rule action has e = record {
  rule_is = ap rule_of e ∙ ap (λ (r : Rule). record r { action = Some action }) has.rule_is;
  own = ap (λ (x : Arg). x.global) e ∙ has.own;
}

pub rule_required : (a b : Arg) (rule : Rule) → HasRule a rule → b ≡ record a { required = true } → HasRule b (needed rule)
rule_required a b rule has e = record {
  rule_is = ap rule_of e ∙ ap needed has.rule_is;
  own = ap (λ (x : Arg). x.global) e ∙ has.own;
}

some_is : {T : Type 0} (o : Option T) (v : T) → IsSomeAnd o (λ r. r ≡ v) → o ≡ Some v
some_is None v h = absurd h
some_is (Some x) v e = ap Some e

pub rule_more : (a b : Arg) (rule : Rule) → HasRule a rule → b ≡ record a { num_vals = b.num_vals }
    → IsSomeAnd b.num_vals (λ r. r ≡ record { start_inclusive = 1; end_inclusive = usize_max }) → HasRule b (more rule)
rule_more a b rule has e some =
    let range : b.num_vals ≡ Some (record { start_inclusive = 1; end_inclusive = usize_max }) = some_is b.num_vals _ some in
    record {
      rule_is = ap rule_of e ∙ ap (λ (r : Option ValueRange). record (rule_of a) { range = r }) range ∙ ap more has.rule_is;
      own = ap (λ (x : Arg). x.global) e ∙ has.own;
    }

neither : (a b : Bool) → a ≡ false → b ≡ false → (a || b) ≡ false
neither false false p q = refl
neither true b p q = cc
neither false true p q = cc

pub app_help : (old new : Command) (app : App) (text : Bor Text) → HasApp old app
    → out-Command new ≡ record (out-Command old) { help_str = Some text } → HasApp new app
app_help old new app text has e = record {
  app_is = ap app_of_fields e ∙ has.app_is;
  local = ap (λ fields. fields.has_globals) e ∙ has.local;
}

pub app_version : (old new : Command) (app : App) (text : Bor Text) → HasApp old app
    → out-Command new ≡ record (out-Command old) { version = Some text } → HasApp new (on_top (λ shape. record shape { has_version = true }) app)
app_version old new app text has e = record {
  app_is = ap app_of_fields e ∙ ap (on_top (λ (shape : Shape). record shape { has_version = true })) has.app_is;
  local = ap (λ fields. fields.has_globals) e ∙ has.local;
}

pub app_with_rule : (old new : Command) (arg : Arg) (app : App) (rule : Rule) → HasApp old app → HasRule arg rule → AddsArg old arg new
    → HasApp new (with_rule app rule)
app_with_rule old new arg app rule is has adds = record {
  app_is = adds.shape has.own ∙ ap (λ a. with_rule a (rule_of arg)) is.app_is ∙ ap (with_rule app) has.rule_is;
  local = adds.globals ∙ neither _ _ is.local has.own;
}

pub app_with_command : (old new command : Command) (app more : App) → app_of old ≡ app → HasApp command more → AddsSubcommand old command new
    → app_of new ≡ with_subcommand app more.top
app_with_command old new command app more of_old is adds =
    adds.shape is.local
    ∙ ap (λ a. with_subcommand a (shape_of command)) of_old
    ∙ ap (λ (a : App). with_subcommand app a.top) is.app_is

-- the same, of what is known of the call that adds one
pub one_more : (old new : Command) (app : App) (top : Shape) → app_of old ≡ app → app_of new ≡ with_subcommand (app_of old) top
    → app_of new ≡ with_subcommand app top
one_more old new app top of_old adds = adds ∙ ap (λ (all : App). with_subcommand all top) of_old

-- one more turn of a loop over the rows of a table
pub fold_map_more : {X Y Z : Type 0} (f : Z → Y → Z) (g : X → Y) (z : Z) (xs : List X) (i : ℕ) (d : X) → i < length xs
    → fold f z (map g (take (i + 1) xs)) ≡ f (fold f z (map g (take i xs))) (g (get_or xs i d))
fold_map_more f g z xs i d lt = ap (fold f z) (map_more g xs i d lt) ∙ fold_push f z (map g (take i xs)) (g (get_or xs i d))
