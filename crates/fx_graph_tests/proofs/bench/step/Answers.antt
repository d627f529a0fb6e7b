use Rattle.fx_graph_tests.proofs.bench.step.Goals as goal

pub returns : goal.returns
returns c =
    let now = c.in_ok-give.ensures in
    record { formed = now.formed; apart = now.apart; claims = now.claims; graph = c.in_ok-deliver.ensures _ now.graph }
