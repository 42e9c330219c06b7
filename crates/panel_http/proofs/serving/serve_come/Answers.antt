use Rattle.std.proofs.Common.{◌<◌, inr, length, rules}
use Rattle.panel_http.proofs.MoreLemmas.{no-bytes, nothing-comes, serves-more}
use Rattle.panel_http.proofs.ServingLemmas.{serves-no-memory}
use Rattle.panel_http.proofs.serving.serve_come.Goals as goal

pub returns-then-is_empty-clause-serves : goal.returns-then-is_empty-clause-serves
returns-then-is_empty-clause-serves g c = λ more earlier whole honest holds.
    let none = no-bytes c.args.come.now (search rules) in
    (inr (nothing-comes _ c.args.come.now more none whole), search rules, holds)

pub returns-in-Ok-clause-serves : goal.returns-in-Ok-clause-serves
returns-in-Ok-clause-serves g c = λ more earlier whole honest holds.
    let some : 0 < length c.args.come.now = search rules in
    let served = c.serve_request.ensures.serves c.args.come.now earlier 0 0 some (rw c.building.ensures at c.in-Ok.ensures) honest holds in
    serves-more _ _ _ more _ _ _ _ _ _ _ _ _ _ whole served

pub returns-in-Err-clause-serves : goal.returns-in-Err-clause-serves
returns-in-Err-clause-serves g c = λ more earlier whole honest holds.
    let some : 0 < length c.args.come.now = search rules in
    let served = serves-no-memory _ earlier c.args.come.now 0 0 _ _ _ _ _ _ _ _ some holds c.write_answer.ensures in
    serves-more _ _ _ more _ _ _ _ _ _ _ _ _ _ whole served
