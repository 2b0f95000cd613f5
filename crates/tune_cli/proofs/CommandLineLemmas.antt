-- The program's command line, and the subcommands that its words can name.
use Rattle.std.proofs.Common.{◌≡◌, ap, ◌∙◌, refl, Bool, true, false, cond, inl, inr, List, [], ◌∷◌, Option, Some, None, option_map, find}
use Rattle.std.proofs.Common.{ℕ, zero, suc, ◌<◌, arith, fold, length, map, slice_index_or, take}
use Rattle.std.specs.Prelude.{⊤, IfSome}
use Rattle.clap.specs.declared.builder.command.Command.{Command}
use Rattle.clap.specs.declared.builder.command.Command.TheViews.{out-Command}
use Rattle.clap.specs.Walk.{Text, answers_to, stop_after}
use Rattle.clap.specs.Simple.{App, Shape, app_of, argument_words, built, entered, label_of, names_of, rows_at, shape_of, with_subcommand}
use Rattle.clap.specs.Built.{AddsSubcommand}
use Rattle.tune_cli.specs.CommandLine.{tunes_app, subcommand_in}
use Rattle.tune_cli.specs.Inside.Subcommands.{IsSubcommand}

-- one subcommand more
pub app_of_more : (top sub new : Command) (app more : App) → app_of top ≡ app → app_of sub ≡ more → (out-Command sub).has_globals ≡ false
    → AddsSubcommand top sub new → app_of new ≡ with_subcommand app more.top
app_of_more top sub new app more of_top of_sub local adds =
    adds.shape local
    ∙ ap (λ a. with_subcommand a (shape_of sub)) of_top
    ∙ ap (λ (a : App). with_subcommand app a.top) of_sub

-- the next of some rows, in turn
pub next_in_turn : {A B C : Type 0} (step : B → C → B) (made : A → C) (start : B) (rows : List A) (index : ℕ) (default : A) → index < length rows
    → step (fold step start (map made (take index rows))) (made (slice_index_or rows index default)) ≡ fold step start (map made (take (suc index) rows))
next_in_turn step made start [] index default h = absurd (omega arith)
next_in_turn step made start (row ∷ rows) zero default h = refl
next_in_turn step made start (row ∷ rows) (suc index) default h = next_in_turn step made (step start (made row)) rows index default (omega arith)

abbrev pub EachIs : (Shape → Type 0) → List Shape → Type 0
EachIs P [] = ⊤
EachIs P (s ∷ rest) = P s × EachIs P rest

pub found : (P : Shape → Type 0) (test : Shape → Bool) (subs : List Shape) → EachIs P subs → IfSome (find test subs) P
found P test [] each = tt
found P test (s ∷ rest) each = go (test s) (find test rest) (found P test rest each.1)
  where
    go : (b : Bool) (o : Option Shape) → IfSome o P → IfSome (cond b (Some s) o) P
    go true o later = each.0
    go false o later = later

abbrev HasKnownName : Shape → Type 0
HasKnownName s = IsSubcommand s.name

five : EachIs HasKnownName (built tunes_app).subs
five = (inl refl, (inr (inl refl), (inr (inr (inl refl)), (inr (inr (inr (inl refl))), (inr (inr (inr (inr refl))), tt)))))

-- a subcommand in the words is one of the five
pub one_of_five : (words : List Text) → IfSome (subcommand_in words) IsSubcommand
one_of_five words = at (stop_after (built tunes_app).top.rules (names_of (built tunes_app)) (argument_words tunes_app words))
  where
    named : (o : Option Shape) (rest : List Text) → IfSome o HasKnownName → IfSome (option_map (λ p. p.0) (option_map (λ s. rows_at s rest) o)) IsSubcommand
    named None rest is = tt
    named (Some s) rest is = is

    at : (stop : Option (Text × List Text)) → IfSome (option_map (λ p. p.0) (entered (built tunes_app) stop)) IsSubcommand
    at None = tt
    at (Some p) =
        let test : Shape → Bool = λ s. answers_to p.0 (label_of s) in
        named (find test (built tunes_app).subs) p.1 (found HasKnownName test (built tunes_app).subs five)
