pub mod SurveyedLemmas
