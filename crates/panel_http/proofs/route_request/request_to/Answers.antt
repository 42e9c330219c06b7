use Rattle.panel_http.proofs.route_request.request_to.Goals as goal

pub returns-in-Commands : goal.returns-in-Commands
returns-in-Commands c = rw c.in-Commands.is (c.or_refused.ensures _ c.command_body.ensures)

pub returns-in-Skip : goal.returns-in-Skip
returns-in-Skip c = rw c.in-Skip.is (c.or_refused-in-Skip.ensures _ c.skip_body.ensures)

pub returns-in-Tick : goal.returns-in-Tick
returns-in-Tick c = rw c.in-Tick.is (c.or_refused-in-Tick.ensures _ c.tick_body.ensures)

pub returns-in-Imports : goal.returns-in-Imports
returns-in-Imports c = rw c.in-Imports.is (c.or_refused-in-Imports.ensures _ c.import_body.ensures)
