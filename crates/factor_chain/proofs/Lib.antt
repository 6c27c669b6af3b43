mod FewEvidences
