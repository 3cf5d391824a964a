use Rattle.run_tests.proofs.adding.stands_with.Goals as goal

pub returns : goal.returns
returns c = λ may. c.additions_stand.ensures c.args.state.now.held.graph_id c.args.state.now.held.commands c.args.command.now c.graph-graph.ensures.standing (c.may_follow.ensures may)
