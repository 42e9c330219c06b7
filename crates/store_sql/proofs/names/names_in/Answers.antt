use Rattle.std.proofs.Common.{◌≡◌, [], sym, subst, rules, None, Some, string_bytes}
use Rattle.sqlite.specs.Held.{state}
use Rattle.store_sql_rows.specs.Ours.{kept_in}
use Rattle.store_sql_rows.specs.Stored.{tables_in}
use Rattle.store.specs.Asked.Asked.{AnyName}
use Rattle.store_sql.specs.Naming.{IsGood, IsKept, StandsIn}
use Rattle.store_sql.specs.Texts.{AreTextsBefore, IsBefore, IsNextText, after}
use Rattle.store_sql.proofs.NameLemmas.{next_fewer, stands_kept}
use Rattle.store_sql.proofs.ReadLemmas.{answers_failed, answers_ok, read_as, read_none, read_then, refused_then}
use Rattle.store_sql.proofs.TextLemmas.{none_before_empty, seen_all, seen_more, texts_all, texts_none, texts_step}
use Rattle.store_sql.proofs.names.names_in.Goals as goal

pub loop-init : goal.loop-init
loop-init g c =
    let first = state g.S.Store c.args.connection.now in
    let empty : string_bytes c.new-from.result ≡ [] = search rules in
    let holds = StandsIn c.args.list (tables_in (kept_in first.now.trees)) in
    record {
      reads = read_none _ first (λ clean ours. (
        subst (λ text. AreTextsBefore holds text c.new-names.result.items) (sym empty)
            (subst (AreTextsBefore holds []) (sym c.new-names.ensures.items) (texts_none holds)),
        λ name has before. absurd (none_before_empty name (subst (IsBefore name) empty before)),
      ));
    }

pub returns-in-None : goal.returns-in-None
returns-in-None g c =
    let kept = kept_in (state g.S.Store c.args.connection.now).now.trees in
    let from = string_bytes c.loop.from in
    let holds = IsKept c.args.list kept in
    let stands = StandsIn c.args.list (tables_in kept) in
    record {
      answers = answers_ok (read_then c.loop.invariant.reads c.in_ok-name.ensures.answers) (λ _ read. let none =
          subst (λ text. IsNextText holds text None) c.deref.ensures (rw c.in-None.is at read.1) in record {
            stand = texts_all stands from c.loop.names.items read.0.0 (next_fewer holds stands from None (stands_kept c.args.list kept) none);
            good = seen_all holds (IsGood c.args.list kept) from read.0.1 none;
          });
    }

pub loop-preserved : goal.loop-preserved
loop-preserved g c =
    let kept = kept_in (state g.S.Store c.args.connection.now).now.trees in
    let from = string_bytes c.loop.from in
    let holds = IsKept c.args.list kept in
    let stands = StandsIn c.args.list (tables_in kept) in
    let text_is : string_bytes c.in_ok-from-in-Some.from ≡ after c.in-Some.name = search rules in
    record {
      reads = read_as (read_then (read_then c.loop.invariant.reads c.in_ok-name.ensures.answers) c.in_ok-stands-in-Some.ensures.answers)
          (λ _ read. let next = subst (λ text. IsNextText holds text (Some c.in-Some.name)) c.deref.ensures (rw c.in-Some.is at read.0.1) in (
            subst (λ text. AreTextsBefore stands text c.push_if.new.names.items) (sym text_is)
                (texts_step stands from c.in-Some.name c.loop.names.items c.push_if.new.names.items c.in_ok-stands-in-Some.stands read.0.0.0
                (next_fewer holds stands from (Some c.in-Some.name) (stands_kept c.args.list kept) next) read.1.tells
                c.in_ok-push_if-in-Some.ensures.items),
            subst (λ from. (name : _) → holds name → IsBefore name from → IsGood c.args.list kept name) (sym text_is)
                (seen_more holds (IsGood c.args.list kept) from c.in-Some.name read.0.0.1 next read.1.good),
          ));
    }

pub returns-in_err-name : goal.returns-in_err-name
returns-in_err-name g c =
    record { answers = refused_then c.loop.invariant.reads c.in_err-name.ensures.answers (λ _ _ broken. (AnyName, broken)) (search rules) }

pub returns-in_err-stands-in-Some : goal.returns-in_err-stands-in-Some
returns-in_err-stands-in-Some g c =
    record {
      answers = refused_then (read_then c.loop.invariant.reads c.in_ok-name.ensures.answers) c.in_err-stands-in-Some.ensures.answers
          (λ _ _ broken. broken)
          (search rules);
    }

pub returns-in_err-from-in-Some : goal.returns-in_err-from-in-Some
returns-in_err-from-in-Some g c =
    record {
      answers = answers_failed
          (read_then (read_then c.loop.invariant.reads c.in_ok-name.ensures.answers) c.in_ok-stands-in-Some.ensures.answers) c.in_err-from-in-Some.ensures.fault
          (search rules);
    }

pub returns-in_err-push_if-in-Some : goal.returns-in_err-push_if-in-Some
returns-in_err-push_if-in-Some g c =
    record {
      answers = answers_failed
          (read_then (read_then c.loop.invariant.reads c.in_ok-name.ensures.answers) c.in_ok-stands-in-Some.ensures.answers) c.in_err-push_if-in-Some.ensures.fault
          (search rules);
    }
