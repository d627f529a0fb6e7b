use Rattle.std.proofs.Common.{◌≡◌, ◌∙◌, ap, sym, subst, [], List, ℕ}
use Rattle.std.proofs.lemmas.Bool.{both_ways}
use denote.Enum.Bare.{sameb}
use Rattle.clap.specs.contracts.error.kind.ErrorKind.{the_type}
use Rattle.clap.specs.declared.error.kind.ErrorKind.TheVariants.{OutOfMemory}
use Rattle.clap.specs.Faults.{fault_of, is_simple_and_free}
use Rattle.clap.specs.Kinds.{HasKind}
use Rattle.clap.specs.Matches.{found_of}
use Rattle.clap.specs.Walk.{rows_of}
use Rattle.clap.specs.Simple.{app_of, is_simple, matches_of}
use Rattle.fx_words.specs.Splitting.{words_app, texts_of}
use Rattle.fx_words.proofs.Options.{app_is_free, app_is_simple}
use Rattle.fx_words.proofs.Whole.{given_where_matched, none_where_refused}
use Rattle.fx_words.proofs.splitting.split.Goals as goal

pub returns-in-Ok : goal.returns-in-Ok
returns-in-Ok c =
    let words : List (List ℕ) = texts_of c.args.words.now in
    let app : app_of c.in_ok-command.field-0 ≡ words_app = c.in_ok-command.ensures in
    let passes : fault_of words_app words ≡ [] =
    ap (λ a. fault_of a words) (sym app) ∙ c.in-Ok.ensures.kinds (ap is_simple_and_free app ∙ app_is_free) in
    let rows : rows_of (found_of c.in-Ok.matches) ≡ matches_of words_app words =
    (c.in-Ok.ensures.matches (ap is_simple app ∙ app_is_simple)).0 ∙ ap (λ a. matches_of a words) app in
    given_where_matched words c.in-Ok.matches c.requires.plain passes rows

pub returns : goal.returns
returns c =
    let words : List (List ℕ) = texts_of c.args.words.now in
    let app : app_of c.in_ok-command.field-0 ≡ words_app = c.in_ok-command.ensures in
    let kind : HasKind (fault_of words_app words) c.in-Err.error =
    subst (λ a. HasKind (fault_of a words) c.in-Err.error) app (c.in-Err.ensures.kinds (ap is_simple_and_free app ∙ app_is_free)) in
    none_where_refused words c.in-Err.error c.requires.plain kind (λ memory.
    both_ways c.eq.result c.if-eq.false (c.eq.ensures ∙ ap (λ k. sameb the_type k OutOfMemory) (c.kind.ensures ∙ memory)))
