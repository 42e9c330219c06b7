use Rattle.std.proofs.Common.{◌∙◌, ap, codes}
use Rattle.panel_http.specs.Routes.{Rows, with_row}
use Rattle.panel_http.specs.declared.routes.Row.TheVariants as row
use Rattle.panel_http.proofs.routes.gets.Goals as goal

pub returns : goal.returns
returns c =
    c.in_ok-add-7.ensures
    ∙ ap (λ (rows : Rows). with_row (codes "/points/{point}") row.Point rows)
    (c.in_ok-add-6.ensures ∙ ap (λ (rows : Rows). with_row (codes "/reports/{date}") row.Report rows)
    (c.in_ok-add-5.ensures ∙ ap (λ (rows : Rows). with_row (codes "/points") row.Points rows)
    (c.in_ok-add-4.ensures ∙ ap (λ (rows : Rows). with_row (codes "/points/{point}/why") row.Why rows)
    (c.in_ok-add-3.ensures ∙ ap (λ (rows : Rows). with_row (codes "/panels/{panel}") row.Panel rows)
    (c.in_ok-add-2.ensures ∙ ap (λ (rows : Rows). with_row (codes "/record") row.Record rows)
    (c.in_ok-add.ensures ∙ ap (λ (rows : Rows). with_row (codes "/metrics") row.Metrics rows) c.new-router.ensures))))))
