use Rattle.fx_base.proofs.address_text.+dotted.Given as goal

abbrev pub decreases-dotted : goal.decreases-dotted
decreases-dotted l = l.more
