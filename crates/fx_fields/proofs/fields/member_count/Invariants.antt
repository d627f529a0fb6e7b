use Rattle.std.proofs.Common.{◌≡◌, ◌≤◌, ◌+◌, length}
use Rattle.serde_json.specs.View.{members_view}
use Rattle.fx_fields.specs.Fields.{member_count}
use Rattle.fx_fields.proofs.fields.member_count.Given as goal

abbrev pub invariant-loop-value : goal.invariant-loop-value
invariant-loop-value l = record {
  counted : l.count + member_count (members_view l.value-iterator) ≡ member_count (members_view l.map.entries);
  small : l.count + length l.value-iterator ≤ length l.map.entries;
}
