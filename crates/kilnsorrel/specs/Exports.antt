-- The contracts of the exported calls, as the toolchain makes them of the source. Everything that is claimed of them is claims/specs/Claims.
-- Assumes nothing.
use Rattle.claims.specs.Border.{Contracts}
use Rattle.kilnsorrel.specs.contracts.kilnsorrel_fresh
use Rattle.kilnsorrel.specs.contracts.kilnsorrel_feed
use Rattle.kilnsorrel.specs.contracts.kilnsorrel_feed_entries
use Rattle.kilnsorrel.specs.contracts.kilnsorrel_finish
use Rattle.kilnsorrel.specs.contracts.kilnsorrel_finish_entries
use Rattle.kilnsorrel.specs.contracts.kilnsorrel_estimates
use Rattle.kilnsorrel.specs.contracts.kilnsorrel_write
use Rattle.kilnsorrel.specs.contracts.kilnsorrel_page

abbrev pub exports : Contracts
exports =
    record {
      fresh = λ w. kilnsorrel_fresh.clauses w.𝓛 w.𝓜.mem w.𝓡.run;
      feed = λ w. kilnsorrel_feed.clauses w.𝓛 w.𝓜.mem w.𝓡.run;
      feed_entries = λ w. kilnsorrel_feed_entries.clauses w.𝓛 w.𝓜.mem w.𝓡.run;
      finish = λ w. kilnsorrel_finish.clauses w.𝓛 w.𝓜.mem w.𝓡.run;
      finish_entries = λ w. kilnsorrel_finish_entries.clauses w.𝓛 w.𝓜.mem w.𝓡.run;
      estimates = λ w. kilnsorrel_estimates.clauses w.𝓛 w.𝓜.mem w.𝓡.run;
      write = λ w. kilnsorrel_write.clauses w.𝓛 w.𝓜.mem w.𝓡.run;
      page = λ w. kilnsorrel_page.clauses w.𝓛 w.𝓜.mem w.𝓡.run;
    }
