use Rattle.std.proofs.Common.{refl}
use Rattle.std.specs.Fmt.{digits}
use Rattle.panel_http.proofs.status_laws.each_status_has_its_phrase.Goals as goal

pub returns : goal.returns
unfolding digits
returns c = record {
  ok = refl;
  accepted = refl;
  bad_request = refl;
  not_found = refl;
  conflict = refl;
  gone = refl;
  unprocessable = refl;
  store_failed = refl;
  no_memory = refl;
}
