-- Operations as text, in the words of ipset(8); docs/OUTPUT.md of this repository lists them.
use Rattle.std.specs.Prelude.{List, length, ◌++◌, ℕ, codes, decimal}
use Rattle.std.specs.FinMap as map
use Rattle.fx_model.specs.MemberTexts.{member_text, type_text}
use Rattle.fx_model.specs.Tables.{Tables}
use Rattle.fx_reconcile.specs.declared.op.Op.{Op}
use Rattle.fx_reconcile.specs.declared.op.Op.TheVariants.{CreateSet, AddMember, WriteChain, DeleteChain, RemoveMember, DestroySet}
use Rattle.fx_reconcile.specs.Operations.{rules_of}

-- a chain that is written is told with the number of its rules
abbrev pub op_text : Op → Tables → List ℕ
op_text (CreateSet name) goal = codes "create " ++ (name ++ (codes " " ++ type_text name))
op_text (AddMember name x) goal = codes "add " ++ (name ++ (codes " " ++ member_text x))
op_text (WriteChain name) goal =
    codes "write " ++ (name ++ (codes " " ++ decimal (length (rules_of (map.get goal.chains name)))))
op_text (DeleteChain name) goal = codes "delete " ++ name
op_text (RemoveMember name x) goal = codes "remove " ++ (name ++ (codes " " ++ member_text x))
op_text (DestroySet name) goal = codes "destroy " ++ name
