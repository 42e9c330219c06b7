use Rattle.std.proofs.Common.{refl}
use Rattle.std.specs.Fmt.{digits}
use Rattle.panel_http.specs.Response.{response_text}
use Rattle.panel_http.proofs.fixed_texts.no_memory_text.Goals as goal

pub returns : goal.returns
unfolding response_text digits
returns c = refl
