use Rattle.std.specs.Prelude.{codes}
use Rattle.fx_gen.specs.Generator.{allow_rule, deny_rule, next_role}
use Rattle.fx_gen.proofs.Pieces.{five_parts}
use Rattle.fx_gen.proofs.parts.push_policy_rules.Goals as goal

pub returns : goal.returns
returns c =
    five_parts c.args.line.now.items c.extend_from_slice.new.self.items c.push_allow_rule.new.line.items c.extend_from_slice-2.new.self.items c.push_deny_rule.new.line.items c.extend_from_slice-3.new.self.items
    (codes ",\"ingress\":[") (allow_rule (next_role c.args.role)) (codes ",") (deny_rule c.args.place) (codes "]}")
    c.in_ok-extend_from_slice.ensures.items c.in_ok-push_allow_rule.ensures c.in_ok-extend_from_slice-2.ensures.items c.in_ok-push_deny_rule.ensures c.in_ok-extend_from_slice-3.ensures.items
