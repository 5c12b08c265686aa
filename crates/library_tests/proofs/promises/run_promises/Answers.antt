use Rattle.library_tests.proofs.promises.run_promises.Goals as goal

pub returns-clause-options : goal.returns-clause-options
returns-clause-options g c =
    let end = c.in_ok-end.ensures in
    (end.ran.0, end.ran.1, end.options end.ran.0 end.ran.2)

pub returns-clause-logs : goal.returns-clause-logs
returns-clause-logs g c =
    let end = c.in_ok-end.ensures in
    (end.ran.0, end.ran.1, end.ran.2, (end.logs end.ran.0 end.ran.2).1)

pub returns-clause-metrics : goal.returns-clause-metrics
returns-clause-metrics g c =
    let end = c.in_ok-end.ensures in
    (end.ran.0, end.ran.1, end.ran.2, (end.metrics end.ran.0 end.ran.2).1)

pub returns-clause-losses : goal.returns-clause-losses
returns-clause-losses g c =
    let end = c.in_ok-end.ensures in
    (end.ran.0, end.ran.1, end.ran.2, (end.losses end.ran.0 end.ran.2).1)
