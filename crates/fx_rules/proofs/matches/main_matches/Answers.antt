use Rattle.fx_rules.proofs.MatchLemmas.{whole_matches}
use Rattle.fx_rules.proofs.matches.main_matches.Goals as goal

pub returns : goal.returns
returns c =
    whole_matches c.args.rule.now c.args.is_blocked c.new-matches.result c.push_base.new.matches c.push_extensions.new.matches
    c.new-matches.ensures c.in_ok-push_base.ensures c.in_ok-push_extensions.ensures c.requires.blocked
