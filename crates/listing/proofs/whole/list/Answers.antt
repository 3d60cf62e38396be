use Rattle.std.proofs.Common.{arith, rules}
use Rattle.listing.proofs.Rows.{lines_few}
use Rattle.listing.proofs.Tellings.{listings_tell_histories}
use Rattle.listing.proofs.Wholes.{refused_answer, refused_octets, listed_answer, listed_octets, short_trace}
use Rattle.listing.proofs.whole.list.Goals as goal

pub returns-in_err-check_sizes : goal.returns-in_err-check_sizes
returns-in_err-check_sizes c =
    let trace = c.args.trace.now in
    let out = c.args.out.now in
    let reason = c.in_err-check_sizes.field-0.0 in
    record {
      answer = search (rules, refused_answer trace out reason c.in_err-check_sizes.ensures);
      octets = refused_octets trace out reason c.in_err-check_sizes.ensures;
      few = search rules;
      tells = listings_tell_histories trace;
    }

pub returns : goal.returns
returns c =
    let trace = c.args.trace.now in
    let out = c.args.out.now in
    let none = c.in_ok-check_sizes.ensures in
    record {
      answer = listed_answer trace out none c.list_all.new.out c.list_all.result c.list_all.ensures.wrote;
      octets = listed_octets trace out none c.list_all.new.out c.list_all.result c.list_all.ensures.wrote;
      few = omega (arith, c.list_all.ensures.short, lines_few trace, short_trace trace out none);
      tells = listings_tell_histories trace;
    }
