use Rattle.cli_store.proofs.foretelling.foretell_over.Goals as goal

pub returns : goal.returns
returns g c = λ file_bytes list_bytes file list.
    let building = c.in_ok-building.building in
    let read = c.in-Ok.ensures.read in
    record {
      building = building;
      building_is = c.in_ok-building.ensures file_bytes file;
      delivery = c.in_ok-delivery.delivery;
      asked = c.in_ok-delivery.ensures list_bytes list;
      found = read.found;
      is_found = read.is_found;
      only_read = read.only_read;
      foretells = λ earlier begins honest.
          (rw c.in_ok-desk.ensures.building at c.in_ok-answer_over.ensures) earlier
          (c.in_ok-desk.ensures.holds earlier (read.copied building earlier begins honest));
    }
