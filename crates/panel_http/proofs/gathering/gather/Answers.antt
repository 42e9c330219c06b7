use Rattle.std.proofs.Common.{◌≡◌, subst}
use Rattle.panel_http.specs.Requests.{IsRequest}
use Rattle.panel_http.specs.Whole.{IsWhole}
use Rattle.panel_http.proofs.gathering.gather.Goals as goal

pub returns-in-Asks-clause-asks : goal.returns-in-Asks-clause-asks
returns-in-Asks-clause-asks g c = λ request is.
    let building = c.args.building.now in
    let same : c.in-Asks.request ≡ request = cc is in
    let read = subst (IsRequest building _) same c.in-Asks.ensures.1 in (
      subst (IsWhole building) c.deref.ensures.value c.in-Asks.ensures.0,
      subst (λ l. IsRequest building l request) c.deref.ensures.value read,
    )

pub returns-in-Lacks-eq0-clause-whole : goal.returns-in-Lacks-eq0-clause-whole
returns-in-Lacks-eq0-clause-whole g c = λ building _.
    subst (IsWhole building) c.deref.ensures.value ((c.in-Lacks-eq0.ensures building).whole.0 c.in-Lacks-eq0.field-0-test)
