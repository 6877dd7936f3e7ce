use Rattle.shared_seq.proofs.rotation.balance_beside.Goals as goal

pub balance-requires : goal.balance-requires
balance-requires g c = rw c.in_ok-one.ensures c.requires

pub returns-clause-joined : goal.returns-clause-joined
returns-clause-joined g c = rw c.in_ok-one.ensures at c.balance.ensures.joined
